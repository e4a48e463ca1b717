use Rattle.std.proofs.Common.{◌≡◌, drop}
use Rattle.cjc_cmd_card.specs.Shelf.Command.Publish.{written_files}
use Rattle.cjc_cmd_make.specs.Report.Package.{named_classes}
use Rattle.cjc_cmd_card.specs.Shelf.Memory.{clean_shelved, files_of}
use Rattle.cjc_cmd_make.proofs.report.shelf.add_classes.Given as goal

abbrev pub invariant-loop-i : goal.invariant-loop-i
invariant-loop-i l = written_files (named_classes l.i (drop l.i l.classes)) (files_of (clean_shelved l.shelf))
    ≡ written_files (named_classes 0 l.classes) (files_of (clean_shelved l.fn.shelf))
