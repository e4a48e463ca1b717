use Rattle.std.proofs.Common.{◌≡◌, ◌++◌, drop, map}
use Rattle.cjc_card_link.specs.LowerCardFrame.Kinds.{cell_name_of}
use Rattle.cjc_pairing.specs.CardNames.Working.Cells.{beside, cells_by}
use Rattle.cjc_pairing.proofs.card_names.cells.cells_of.Given as goal

abbrev pub invariant-loop-number : goal.invariant-loop-number
invariant-loop-number l = map cell_name_of l.cells ++ beside cells_by (drop l.number l.classes)
    (drop l.number l.offsets) ≡ beside cells_by l.classes l.offsets
