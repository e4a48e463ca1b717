use Rattle.std.proofs.Common.{ap, ◌∙◌}
use Rattle.cjc_jvm_link.specs.Joint.{with_image}
use Rattle.cjc_jvm_link.proofs.Together.{image_more}
use Rattle.cjc_jvm_link.proofs.joint.joint_image.Goals as goal

pub loop-image-preserved : goal.loop-image-preserved
loop-image-preserved c =
    image_more c.args.images.now c.loop-image.image-index c.image-item.result c.loop-image.joint c.put_image.new.joint
    c.loop-image-test.true c.loop-image.invariant
    (c.in_ok-put_image.ensures ∙ ap (with_image c.loop-image.joint) c.image-item.is)
