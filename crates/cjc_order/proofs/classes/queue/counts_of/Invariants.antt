use Rattle.std.proofs.Common.{◌≡◌, List, ℕ, length, take, map}
use Rattle.cjc_order.proofs.classes.queue.counts_of.Given as goal

abbrev pub invariant-loop-row : goal.invariant-loop-row
invariant-loop-row l = l.counts.items ≡ map (λ (row : List ℕ). length row) (take l.row-index l.listed)
