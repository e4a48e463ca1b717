use Rattle.std.proofs.Common.{◌≡◌, ◌+◌, drop}
use Rattle.std.specs.Prelude.{sum_by}
use Rattle.cjc_check_rules.specs.Spots.{beside, earlier, first}
use Rattle.cjc_check_index.proofs.lookup.along.first_beside.Given as goal

abbrev pub invariant-loop-i : goal.invariant-loop-i
invariant-loop-i g l =
    (l.at + sum_by g.T.Item.bytes (drop l.i l.items) ≡ l.from + sum_by g.T.Item.bytes l.items)
    × (earlier l.least (first (beside g.T.Item.bytes (g.C.Comparison.broken l.test) l.at (drop l.i l.items)
    (drop l.i l.others))) ≡ first (beside g.T.Item.bytes (g.C.Comparison.broken l.test) l.from l.items l.others))
