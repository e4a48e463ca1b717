use Rattle.std.proofs.Common.{◌≡◌, drop, map}
use Rattle.cjc_jvm_semantics.specs.Machine
use Rattle.cjc_jvm.specs.Acts.Meant.{sort_meant}
use Rattle.cjc_jvm.proofs.acts.fitting.are_of_sorts.Given as goal

abbrev pub invariant-loop-i : goal.invariant-loop-i
invariant-loop-i l = Machine.are_of_sorts (map sort_meant l.sorts) l.values
    ≡ Machine.are_of_sorts (map sort_meant (drop l.i l.sorts)) (drop l.i l.values)
