use Rattle.std.proofs.Common.{ap, ◌∙◌}
use Rattle.std.specs.FinMap.{empty}
use Rattle.cjc_cmd_card.specs.Shelf.Command.Publish.{written_files}
use Rattle.cjc_cmd_make.specs.Report.Package.{package_files}
use Rattle.cjc_cmd_make.proofs.ReportLaws.Files.{package_added, with_one}
use Rattle.cjc_cmd_card.specs.Shelf.Memory.{clean_shelved, files_of}
use Rattle.cjc_cmd_make.proofs.report.shelf.package_shelf.Goals as goal

pub returns : goal.returns
returns c =
    let list = rw c.items.ensures at c.in_ok-add.ensures.ok in
    let named = rw c.items-2.ensures at c.in_ok-add_named.ensures in
    let script = rw c.items-3.ensures at c.in_ok-add-2.ensures.ok in
    package_added c.in_ok-made.made _ _ _ _ (with_one (clean_shelved c.new-shelf.result) _ _ _ list) named
    (with_one (clean_shelved c.add_named.new.shelf) _ _ _ script)
    ∙ ap (written_files (package_files c.in_ok-made.made)) (ap files_of c.new-shelf.ensures)
    ∙ ap (λ made. written_files (package_files made) empty) c.in_ok-made.ensures
