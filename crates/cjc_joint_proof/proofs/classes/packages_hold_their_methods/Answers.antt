use Rattle.cjc_joint_proof.proofs.TogetherLaws.{all_hold}
use Rattle.cjc_joint_proof.proofs.classes.packages_hold_their_methods.Goals as goal

pub returns : goal.returns
returns c = λ packages linked leads own ready. all_hold packages linked leads own (λ q p here.
    c.methods_stand.ensures p (ready q p here))
