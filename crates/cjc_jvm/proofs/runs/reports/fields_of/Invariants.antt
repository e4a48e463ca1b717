use Rattle.std.proofs.Common.{◌≡◌, take}
use Rattle.cjc_jvm_step.specs.Heap.Objects.{fields_with}
use Rattle.cjc_jvm.proofs.runs.reports.fields_of.Given as goal

abbrev pub invariant-loop-i : goal.invariant-loop-i
invariant-loop-i l = l.fields ≡ take l.i (fields_with l.fresh l.values)
