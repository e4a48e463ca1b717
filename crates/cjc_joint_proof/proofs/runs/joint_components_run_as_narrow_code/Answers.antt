use Rattle.std.proofs.Common.{refl}
use Rattle.cjc_link_semantics.specs.JvmSemantics.Group.{joint_image}
use Rattle.cjc_token_proof.specs.Calls.Reaching.{start_placed}
use Rattle.cjc_joint_proof.specs.Begun.{all_images}
use Rattle.cjc_joint_proof.specs.JointNames.{joint_calls, joint_labels, joint_named}
use Rattle.cjc_joint_proof.specs.JointPackages.{files_together}
use Rattle.cjc_joint_proof.proofs.PlacedLaws.{methods_placed}
use Rattle.cjc_joint_proof.proofs.StartedLaws.{runs_together}
use Rattle.cjc_joint_proof.proofs.TabledLaws.{tables_agree}
use Rattle.cjc_joint_proof.proofs.TogetherLaws.{all_hold}
use Rattle.cjc_joint_proof.proofs.runs.joint_components_run_as_narrow_code.Goals as goal

pub returns : goal.returns
unfolding joint_named
returns c = λ packages at first here linked keep begun leads own ready calls script n free.
    let files = files_together packages in
    let image = joint_image (all_images packages) in
    runs_together packages linked begun (joint_named files image (λ m. (let p = at m in p.method))) (joint_labels files
    (λ m. (let p = at m in p.method))) (joint_calls files (start_placed at)) (all_hold packages linked leads own (λ q p
    there. c.methods_stand.ensures p (ready q p there))) (tables_agree packages linked keep begun first here
    (joint_named files image (λ m. (let p = at m in p.method))) image (λ m. (let p = at m in p.method)) refl) calls
    (methods_placed files at) script n free
