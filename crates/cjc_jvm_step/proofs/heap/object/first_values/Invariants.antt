use Rattle.std.proofs.Common.{◌≡◌, take, map}
use Rattle.cjc_jvm_step.proofs.heap.object.first_values.Given as goal

abbrev pub invariant-loop-field : goal.invariant-loop-field
invariant-loop-field l = l.values.items ≡ map (λ f. f.value) (take l.field-index l.fresh)
