use Rattle.std.proofs.Common.{[], ◌∷◌}
use Rattle.cjc_world.specs.Classes.{all_classes}
use Rattle.cjc_world.specs.Supertypes.{supertypes}
use Rattle.cjc_jvm_link.proofs.Heights.{supertypes_size}
use Rattle.cjc_jvm_link.proofs.links.Links.+first_imported.Given as goal

abbrev pub decreases-first_imported : goal.decreases-first_imported
decreases-first_imported l = supertypes_size (supertypes (all_classes l.self.now.files) (l.name.now ∷ []))
