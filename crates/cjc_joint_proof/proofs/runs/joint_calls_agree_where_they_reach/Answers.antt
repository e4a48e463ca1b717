use Rattle.cjc_joint_proof.specs.JointNames.{joint_named}
use Rattle.cjc_joint_proof.proofs.CalledLaws.{called_among, called_together}
use Rattle.cjc_joint_proof.proofs.KnownLaws.{objects_alike, operations_known}
use Rattle.cjc_joint_proof.proofs.RootedLaws.{things_are}
use Rattle.cjc_joint_proof.proofs.runs.joint_calls_agree_where_they_reach.Goals as goal

pub returns : goal.returns
unfolding joint_named
returns c = λ packages at first here linked keep begun stand own names begins stands image code reach. record {
  operation_known = operations_known packages linked own names;
  on_object = λ m known. objects_alike packages m;
  words = reach.words;
  reached = reach.reached;
  reached_known = reach.reached_known;
  is_object = things_are packages linked keep (λ q p there. let b = begun q p there in b.typed) first here;
  called = called_together packages linked at stand begins;
  called_known = called_among packages linked at stand stands;
  sent = reach.sent;
  sent_known = reach.sent_known;
}
