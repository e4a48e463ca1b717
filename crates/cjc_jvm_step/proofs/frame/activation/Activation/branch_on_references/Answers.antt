use Rattle.std.proofs.Common.{refl}
use Rattle.cjc_jvm_step.proofs.frame.activation.Activation.branch_on_references.Goals as goal

pub returns-in-None : goal.returns-in-None
returns-in-None c = λ l store. record { effect = c.in-None.ensures _; keeps = (refl, refl) }
