use Rattle.std.proofs.Common.{◌≡◌, sum_by, take}
use Rattle.cjc_classes.specs.LowerComponents.Statics.{size_of_field}
use Rattle.cjc_pairing.proofs.cells.zero_bytes.Given as goal

abbrev pub invariant-loop-field : goal.invariant-loop-field
invariant-loop-field l = l.size ≡ sum_by size_of_field (take l.field-index l.zeros)
