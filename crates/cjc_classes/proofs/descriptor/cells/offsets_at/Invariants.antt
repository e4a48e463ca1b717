use Rattle.std.proofs.Common.{◌≡◌, map, take}
use Rattle.cjc_classes.specs.Descriptor.Keys.{key_cell}
use Rattle.cjc_classes.specs.Descriptor.Working.Cells.{offset_of}
use Rattle.cjc_classes.proofs.descriptor.cells.offsets_at.Given as goal

abbrev pub invariant-loop-key : goal.invariant-loop-key
invariant-loop-key l = l.row ≡ map (key_cell (offset_of l.cells)) (take l.key-index l.keys)
