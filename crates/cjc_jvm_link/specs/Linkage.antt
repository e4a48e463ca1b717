-- What the look-ups of the machine by name rest on: the files of a package, and what its static cells hold at
-- first.
use Rattle.cjc_world.specs.declared.image.StaticImage.{StaticImage}
use Rattle.cjc_world.specs.Files.{Files}
use Rattle.cjc_jvm_semantics.specs.Linked.{Linked}
use Rattle.cjc_jvm_semantics.specs.ByName.{linked}

-- the files of a package, and what its static cells hold at first
pub record Linkage : Type 0 where
  pub files : Files
  pub image : StaticImage

-- the look-ups over them
abbrev pub linked_of : Linkage → Linked
linked_of k = linked k.files k.image
