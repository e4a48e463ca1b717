use Rattle.std.proofs.Common.{◌≡◌, take, map}
use Rattle.cjc_script.specs.declared.value.Value.TheVariants.{Num}
use Rattle.cjc_jvm_step.proofs.heap.object.numbers_of.Given as goal

abbrev pub invariant-loop-number : goal.invariant-loop-number
invariant-loop-number l = l.items.items ≡ map (λ z. Num z) (take l.number-index l.numbers)
