use Rattle.std.proofs.Common.{◌≡◌, map, take, drop}
use Rattle.cjc_vtable.specs.Tables.{of_package}
use Rattle.cjc_vtable.proofs.entries.table.Given as goal

abbrev pub invariant-loop-method : goal.invariant-loop-method
invariant-loop-method l = l.entries ≡ map of_package (take l.method-index (drop l.base l.row))
