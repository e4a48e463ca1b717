use Rattle.std.proofs.Common.{◌≡◌, ◌++◌, replicate}
use Rattle.cjc_card_semantics.specs.Script.declared.value.Value.TheVariants.{Null}
use Rattle.cjc_card_semantics.specs.Machine.Statics.{objects_from}
use Rattle.cjc_card_frame.proofs.image.first.first_references.Given as goal

abbrev pub invariant-loop-i : goal.invariant-loop-i
invariant-loop-i l = l.cells.items ≡ objects_from l.number l.i

abbrev pub invariant-loop-j : goal.invariant-loop-j
invariant-loop-j l = l.cells.items ≡ objects_from l.number l.arrays ++ replicate l.j Null
