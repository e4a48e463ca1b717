use Rattle.std.proofs.Common.{◌≡◌, ◌++◌, take, filter_map}
use Rattle.cjc_frames.specs.Flow.{handler_edge}
use Rattle.cjc_frames.proofs.method.Method.put_handlers.Given as goal

abbrev pub invariant-loop-catch : goal.invariant-loop-catch
invariant-loop-catch l = l.edges ≡ l.initial.edges ++ filter_map (handler_edge l.self.steps l.offset l.before)
    (take l.catch-index l.catch-items)
