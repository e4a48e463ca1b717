use Rattle.std.proofs.Common.{◌≡◌, ◌++◌, ◌-◌}
use Rattle.cjc_group.specs.Implementing.{class_limit, upwards}
use Rattle.cjc_group.proofs.implementing.upwards.Given as goal

abbrev pub invariant-loop-done : goal.invariant-loop-done
invariant-loop-done l = l.line ++ upwards l.group (class_limit - l.done) l.next ≡ upwards l.group class_limit l.name
