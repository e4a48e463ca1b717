use Rattle.cjc_ncode.proofs.LoweringLaws.Catching.{handler_found}
use Rattle.cjc_ncode.proofs.lowering.exceptions_are_caught.Goals as goal

pub returns : goal.returns
returns c = λ n l p part kind whole stands table agree root lie. handler_found n l p part kind whole stands table agree
    root lie
