use Rattle.std.proofs.Common.{◌≡◌, ◌++◌, take, filter_map}
use Rattle.cjc_flow.specs.Working.Kept.{kept_handler}
use Rattle.cjc_flow.proofs.ranging.Ranging.put_handlers.Given as goal

abbrev pub invariant-loop-catch : goal.invariant-loop-catch
invariant-loop-catch l = l.edges ≡ l.initial.edges ++ filter_map (kept_handler l.self l.offset l.before)
    (take l.catch-index l.catch-items)
