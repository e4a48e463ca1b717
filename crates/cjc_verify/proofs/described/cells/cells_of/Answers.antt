use Rattle.std.proofs.Common.{map, ap, ◌∙◌}
use Rattle.cjc_classes.specs.Descriptor.Keys.{key_cell}
use Rattle.cjc_classes.specs.LowerComponents.Statics.{cell_offset}
use Rattle.cjc_verify.proofs.DescribedLaws.Entries.{cells_are}
use Rattle.cjc_verify.proofs.described.cells.cells_of.Goals as goal

pub returns : goal.returns
returns c = cells_are c.args.image.now c.in_ok-keys.keys c.in_ok-offsets.offsets c.in_ok-keys.ensures
    (c.in_ok-offsets.ensures ∙ ap (map (key_cell (cell_offset c.args.image.now))) c.items.ensures)
