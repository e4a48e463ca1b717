use Rattle.std.proofs.Common.{◌≡◌, ◌-◌, ◌++◌, length, drop}
use Rattle.cjc_card_calls.proofs.files.upwards.put_names.Given as goal

abbrev pub invariant-loop-done : goal.invariant-loop-done
invariant-loop-done l = l.left ≡ drop (length l.names - l.done) l.names ++ l.fn.left
