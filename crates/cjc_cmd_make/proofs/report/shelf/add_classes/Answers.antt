use Rattle.cjc_cmd_make.proofs.ReportLaws.Files.{classes_end, classes_next, with_one}
use Rattle.cjc_cmd_card.specs.Shelf.Memory.{clean_shelved}
use Rattle.cjc_cmd_make.proofs.report.shelf.add_classes.Goals as goal

pub loop-i-preserved : goal.loop-i-preserved
loop-i-preserved c =
    let added = rw (c.items.ensures, c.in_ok-name.ensures, c.items-in-loop-i.ensures) at c.in_ok-add.ensures.ok in
    classes_next _ _ c.index-classes-i.result _ _ _ c.loop-i-test.true c.index-classes-i.is
    (with_one (clean_shelved c.loop-i.shelf) _ _ _ added) c.loop-i.invariant

pub returns : goal.returns
returns c = classes_end _ _ _ _ c.loop-i-test.false c.loop-i.invariant
