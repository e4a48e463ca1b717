use Rattle.std.proofs.Common.{◌≡◌, ◌+◌, drop}
use Rattle.std.specs.Prelude.{sum_by}
use Rattle.cjc_check_index.proofs.lookup.along.total.Given as goal

abbrev pub invariant-loop-item : goal.invariant-loop-item
invariant-loop-item g l = l.size + sum_by g.T.Item.bytes (drop l.item-index l.items) ≡ sum_by g.T.Item.bytes l.items
