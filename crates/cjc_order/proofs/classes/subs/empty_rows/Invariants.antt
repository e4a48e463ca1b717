use Rattle.std.proofs.Common.{◌≡◌, [], take, map}
use Rattle.cjc_order.proofs.classes.subs.empty_rows.Given as goal

abbrev pub invariant-loop-row : goal.invariant-loop-row
invariant-loop-row l = l.empty.items ≡ map (λ row. []) (take l._row-index l.rows)
