use Rattle.std.proofs.Common.{◌≡◌, ◌++◌, map, take}
use Rattle.cjc_card_semantics.specs.Machine.ByToken.{shown_cell}
use Rattle.cjc_card_frame.specs.Kinds.{cell_name_of}
use Rattle.cjc_card.proofs.runs.reports.put_cells.Given as goal

abbrev pub invariant-loop-cell : goal.invariant-loop-cell
invariant-loop-cell l = l.fields ≡ l.fn.fields
    ++ map (shown_cell l.part l.statics) (map cell_name_of (take l.cell-index l.cells))
