use Rattle.std.proofs.Common.{◌≡◌, ◌+◌, drop}
use Rattle.std.specs.Prelude.{option_map}
use Rattle.cjc_jvm_semantics.specs.OnePackage.{of_class}
use Rattle.cjc_jvm_step.specs.Heap.Objects
use Rattle.cjc_jvm_step.proofs.heap.object.place_in.Given as goal

abbrev pub invariant-loop-i : goal.invariant-loop-i
invariant-loop-i l = Objects.place_in l.fields (of_class l.class l.id) ≡ option_map (λ n. l.i + n)
    (Objects.place_in (drop l.i l.fields) (of_class l.class l.id))
