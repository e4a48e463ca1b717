use Rattle.std.proofs.Common.{◌≡◌, ◌++◌, drop, map}
use Rattle.cjc_card_link.specs.LowerCardFrame.Kinds.{cell_name_of}
use Rattle.cjc_pairing.specs.CardNames.Working.Cells.{beside, cell_where, cells_by}
use Rattle.cjc_pairing.proofs.card_names.cells.put_cells.Given as goal

abbrev pub invariant-loop-place : goal.invariant-loop-place
invariant-loop-place l = map cell_name_of l.cells ++ beside (cell_where l.class.name) (drop l.place l.fields)
    (drop l.place l.offsets) ≡ map cell_name_of l.fn.cells ++ cells_by l.class l.offsets
