use Rattle.std.proofs.Common.{refl}
use Rattle.cjc_jvm_step.proofs.FrameLaws.Conditions.{swap_none}
use Rattle.cjc_jvm_step.proofs.frame.activation.Activation.swap.Goals as goal

pub returns-in-None : goal.returns-in-None
returns-in-None c = λ l store.
    let f = c.args.self.now in
    record { effect = swap_none l f.method f.at f.locals store f.stack c.in-None.ensures; keeps = (refl, refl) }
