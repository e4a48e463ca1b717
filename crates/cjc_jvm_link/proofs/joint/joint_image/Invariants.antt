use Rattle.std.proofs.Common.{◌≡◌, take}
use Rattle.cjc_jvm_semantics.specs.Group.{joint_image}
use Rattle.cjc_jvm_link.proofs.joint.joint_image.Given as goal

abbrev pub invariant-loop-image : goal.invariant-loop-image
invariant-loop-image l = l.joint ≡ joint_image (take l.image-index l.images)
