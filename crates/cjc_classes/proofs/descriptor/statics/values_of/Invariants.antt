use Rattle.std.proofs.Common.{◌≡◌, take}
use Rattle.std.specs.List.{flat_map}
use Rattle.cjc_components.specs.Statics.{value_bytes}
use Rattle.cjc_classes.proofs.descriptor.statics.values_of.Given as goal

abbrev pub invariant-loop-cell : goal.invariant-loop-cell
invariant-loop-cell l = l.out ≡ flat_map value_bytes (take l.cell-index l.cells)
