use Rattle.std.proofs.Common.{◌≡◌, ◌++◌, drop}
use Rattle.std.specs.List.{flat_map}
use Rattle.cjc_script_text.specs.Printed.{static_line}
use Rattle.cjc_script_text.proofs.printing.put_statics.Given as goal

abbrev pub invariant-loop-cell : goal.invariant-loop-cell
invariant-loop-cell l = l.out ++ flat_map static_line (drop l.cell-index l.cells) ≡ l.initial.out
    ++ flat_map static_line l.cells
