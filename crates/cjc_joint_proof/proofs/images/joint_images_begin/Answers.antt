use Rattle.cjc_joint_proof.proofs.ImageLaws.{images_at}
use Rattle.cjc_joint_proof.proofs.images.joint_images_begin.Goals as goal

pub returns : goal.returns
returns c = images_at
