use Rattle.cjc_world.specs.Classes.{all_classes}
use Rattle.cjc_world.specs.Supertypes.{supertypes}
use Rattle.cjc_jvm_link.proofs.Heights.{supertypes_size}
use Rattle.cjc_jvm_link.proofs.fresh.Fresh.+put_classes.Given as goal

abbrev pub decreases-put_classes : goal.decreases-put_classes
decreases-put_classes l = supertypes_size (supertypes (all_classes l.world.now) l.names.now)
