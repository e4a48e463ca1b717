use Rattle.cjc_ncode.proofs.LoweringLaws.Search.{handler_same}
use Rattle.cjc_ncode.proofs.lowering.handlers_are_found.Goals as goal

pub returns : goal.returns
returns c = λ n l to count k kind inside ascends agree root catches lie. handler_same n l to count k kind inside ascends
    agree root catches lie
