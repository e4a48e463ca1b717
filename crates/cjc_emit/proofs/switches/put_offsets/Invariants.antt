use Rattle.std.proofs.Common.{◌≡◌, ◌++◌, drop}
use Rattle.cjc_emit.specs.Working.{label_at, offset_bytes}
use Rattle.cjc_emit.proofs.switches.put_offsets.Given as goal

abbrev pub invariant-loop-case : goal.invariant-loop-case
invariant-loop-case l = l.out ++ offset_bytes (label_at l.places l.end) l.at (drop l.case-index l.cases) ≡ l.fn.out
    ++ offset_bytes (label_at l.places l.end) l.at l.cases
