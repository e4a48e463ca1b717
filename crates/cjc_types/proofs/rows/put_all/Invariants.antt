use Rattle.std.proofs.Common.{◌≡◌, ◌++◌}
use Rattle.cjc_types.proofs.rows.put_all.Given as goal

abbrev pub invariant-loop-item : goal.invariant-loop-item
invariant-loop-item g l = l.row ≡ l.initial.row ++ l.yielded
