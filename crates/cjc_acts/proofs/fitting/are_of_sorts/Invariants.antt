use Rattle.std.proofs.Common.{◌≡◌, drop, map}
use Rattle.cjc_by_name.specs.Machine
use Rattle.cjc_acts.specs.Meant.{sort_meant}
use Rattle.cjc_acts.proofs.fitting.are_of_sorts.Given as goal

abbrev pub invariant-loop-i : goal.invariant-loop-i
invariant-loop-i l = Machine.are_of_sorts (map sort_meant l.sorts) l.values ≡ Machine.are_of_sorts (map sort_meant (drop l.i l.sorts)) (drop l.i l.values)
