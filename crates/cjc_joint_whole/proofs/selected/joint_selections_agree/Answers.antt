use Rattle.cjc_joint_whole.proofs.WholeLaws.Kinds.{selections_agree}
use Rattle.cjc_joint_whole.proofs.selected.joint_selections_agree.Goals as goal

pub returns : goal.returns
returns c = λ packages is finds at stand interfaces.
    selections_agree packages is at
    (λ q p it m called. c.joint_object_calls_agree.ensures packages is at stand q p it m called)
    (λ q p it m called. c.joint_super_calls_agree.ensures packages is finds at stand q p it m called)
    (λ q p it n m called. c.joint_interface_calls_agree.ensures packages is at stand interfaces.calls q p it n m called)
    interfaces (c.joint_sent_methods_are_known.ensures packages is at stand)
