use Rattle.cjc_cmd_make.proofs.ReportLaws.Files.{files_end, files_next, with_one}
use Rattle.cjc_cmd_card.specs.Shelf.Memory.{clean_shelved}
use Rattle.cjc_cmd_make.proofs.report.shelf.add_files.Goals as goal

pub loop-file-preserved : goal.loop-file-preserved
loop-file-preserved c =
    let added = rw (c.items.ensures, c.items-in-loop-file.ensures) at c.in_ok-add.ensures.ok in
    files_next _ _ _ _ _ _ c.loop-file-test.true c.file-item.is (with_one (clean_shelved c.loop-file.shelf) _ _ _ added)
    c.loop-file.invariant

pub returns : goal.returns
returns c = files_end _ _ _ _ c.loop-file-test.false c.loop-file.invariant
