use Rattle.std.proofs.Common.{◌≡◌, ◌++◌, drop}
use Rattle.cjc_emit.specs.Working.{label_at, match_bytes}
use Rattle.cjc_emit.proofs.switches.put_matches.Given as goal

abbrev pub invariant-loop-case : goal.invariant-loop-case
invariant-loop-case l = l.out ++ match_bytes (label_at l.places l.end) l.at l.width (drop l.case-index l.cases)
    ≡ l.fn.out ++ match_bytes (label_at l.places l.end) l.at l.width l.cases
