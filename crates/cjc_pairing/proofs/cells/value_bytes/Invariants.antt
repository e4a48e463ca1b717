use Rattle.std.proofs.Common.{◌≡◌, sum_by, take}
use Rattle.cjc_classes.specs.LowerComponents.Statics.{size_of_field}
use Rattle.cjc_pairing.proofs.cells.value_bytes.Given as goal

abbrev pub invariant-loop-value : goal.invariant-loop-value
invariant-loop-value l = l.size ≡ sum_by (λ v. size_of_field v.field) (take l.value-index l.others)
