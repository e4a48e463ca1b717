use Rattle.std.proofs.Common.{ap, ◌∙◌}
use Rattle.cjc_command.specs.Publish.{written_files}
use Rattle.cjc_make_report.specs.Package.{named_classes}
use Rattle.cjc_make_report.proofs.Files.{with_one}
use Rattle.cjc_make_report.proofs.shelf.add_named.Goals as goal

pub returns-in-Cons : goal.returns-in-Cons
returns-in-Cons c =
    let lang = rw c.items.ensures at c.in_ok-add.ensures.ok in
    c.in_ok-add_classes.ensures ∙ ap (written_files (named_classes 0 c.in-Cons.classes.now)) (with_one _ _ _ _ lang)
