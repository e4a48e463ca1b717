use Rattle.std.proofs.Common.{◌≡◌, drop}
use Rattle.cjc_frames.specs.Search.{first_from}
use Rattle.cjc_frames.proofs.search.first_by.Given as goal

abbrev pub invariant-loop-place : goal.invariant-loop-place
invariant-loop-place g l = first_from (g.T.Subtypes.subtype l.types) l.method.max_stack l.place
    (drop l.place l.method.steps)
    (drop l.place l.rows) ≡ first_from (g.T.Subtypes.subtype l.types) l.method.max_stack 0 l.method.steps l.rows
