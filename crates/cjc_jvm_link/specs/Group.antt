-- What the look-ups of packages that run together rest on: the files of each, and what all static cells hold at first.
use Rattle.std.specs.Prelude.{◌≡◌, List}
use Rattle.cjc_world.specs.declared.image.StaticImage.{StaticImage}
use Rattle.cjc_world.specs.Files.{Files}
use Rattle.cjc_jvm_semantics.specs.Linked.{Linked}
use Rattle.cjc_jvm_semantics.specs.Group.{group_linked, joint}
use Rattle.cjc_jvm_link.specs.Linkage.{Linkage}

-- the files of the packages, and what their static cells hold at first
pub record Grouped : Type 0 where
  pub group : List Files
  pub image : StaticImage

-- the look-ups over them
abbrev pub linked_of_group : Grouped → Linked
linked_of_group g = group_linked g.group g.image

-- what the look-ups over the joint world rest on
abbrev pub joint_linkage : Grouped → Linkage
joint_linkage g = record { files = joint g.group; image = g.image }
