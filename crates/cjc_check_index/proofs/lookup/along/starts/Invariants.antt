use Rattle.std.proofs.Common.{◌≡◌, ◌+◌, ◌++◌, drop}
use Rattle.std.specs.Prelude.{sum_by}
use Rattle.cjc_check_rules.specs.Spots.{starts}
use Rattle.cjc_check_index.proofs.lookup.along.starts.Given as goal

abbrev pub invariant-loop-item : goal.invariant-loop-item
invariant-loop-item g l =
    (l.at + sum_by g.T.Item.bytes (drop l.item-index l.items) ≡ l.from + sum_by g.T.Item.bytes l.items)
    × (l.starts ++ starts g.T.Item.bytes l.at (drop l.item-index l.items) ≡ starts g.T.Item.bytes l.from l.items)
