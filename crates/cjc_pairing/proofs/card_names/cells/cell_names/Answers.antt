use Rattle.std.proofs.Common.{ap, ◌∙◌}
use Rattle.std.specs.List.{flat_map}
use Rattle.cjc_classes.specs.LowerComponents.Paired.Naming.{cells_in}
use Rattle.cjc_pairing.specs.CardNames.Working.Cells.{beside, cells_by}
use Rattle.cjc_pairing.proofs.CardNames.ByOffset.{cells_are}
use Rattle.cjc_pairing.proofs.card_names.cells.cell_names.Goals as goal

pub returns : goal.returns
returns c =
    let image = c.args.image.now in
    let classes = c.items-classes.result.now in
    c.in_ok-cells.ensures
    ∙ ap (beside cells_by classes) (c.items.ensures ∙ c.in_ok-offsets.ensures)
    ∙ cells_are image classes
    ∙ ap (flat_map (cells_in image)) (c.items-classes.ensures ∙ c.classes.ensures)
