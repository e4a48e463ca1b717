use Rattle.cjc_jvm_step.proofs.frame.activation.Activation.leave.Goals as goal

pub returns-in-176 : goal.returns-in-176
returns-in-176 c = rw c.in-176.is c.leave_with_reference.ensures
