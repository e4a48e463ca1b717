use Rattle.std.proofs.Common.{◌≡◌, ◌+◌, drop}
use Rattle.std.specs.Prelude.{sum_by}
use Rattle.cjc_check_rules.specs.Spots.{along, earlier, first}
use Rattle.cjc_check_index.proofs.lookup.along.first_along.Given as goal

abbrev pub invariant-loop-item : goal.invariant-loop-item
invariant-loop-item g l =
    (l.at + sum_by g.T.Item.bytes (drop l.item-index l.items) ≡ l.from + sum_by g.T.Item.bytes l.items)
    × (earlier l.least (first (along g.T.Item.bytes (g.C.Test.broken l.test) l.at (drop l.item-index l.items)))
    ≡ first (along g.T.Item.bytes (g.C.Test.broken l.test) l.from l.items))
