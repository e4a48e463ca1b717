use Rattle.cjc_exported.specs.World.Classes.{all_classes}
use Rattle.cjc_link_semantics.specs.JvmSemantics.Group.{joint}
use Rattle.cjc_joint_proof.proofs.AboveLaws.{above_stays, subclass_stays, subtype_stays}
use Rattle.cjc_joint_proof.proofs.above.supertypes_stay.Goals as goal

pub returns-clause-above : goal.returns-clause-above
returns-clause-above c = above_stays

pub returns-clause-subtypes : goal.returns-clause-subtypes
returns-clause-subtypes c = λ group apart out imports i p is. subtype_stays (all_classes p) (all_classes (joint group))
    (subclass_stays group apart out imports i p is)
