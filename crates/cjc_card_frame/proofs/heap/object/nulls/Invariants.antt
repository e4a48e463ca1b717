use Rattle.std.proofs.Common.{◌≡◌, replicate}
use Rattle.cjc_card_semantics.specs.Script.declared.value.Value.TheVariants.{Null}
use Rattle.cjc_card_frame.proofs.heap.object.nulls.Given as goal

abbrev pub invariant-loop-i : goal.invariant-loop-i
invariant-loop-i l = l.items.items ≡ replicate l.i Null
