use Rattle.std.proofs.Common.{◌≡◌, ◌++◌, take}
use Rattle.cjc_by_name.specs.OnePackage.{cells_in}
use Rattle.cjc_linked.proofs.cells.put_cells.Given as goal

abbrev pub invariant-loop-field : goal.invariant-loop-field
invariant-loop-field l = l.cells ≡ l.initial.cells ++ cells_in l.image l.class.name (take l.field-index l.class.fields)
