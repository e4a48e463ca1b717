use Rattle.std.proofs.Common.{◌≡◌, drop}
use Rattle.cjc_command.specs.Publish.{written_files}
use Rattle.cjc_make_report.specs.Package.{named_classes}
use Rattle.cjc_shelf.specs.Memory.{clean_shelved, files_of}
use Rattle.cjc_make_report.proofs.shelf.add_classes.Given as goal

abbrev pub invariant-loop-i : goal.invariant-loop-i
invariant-loop-i l = written_files (named_classes l.i (drop l.i l.classes)) (files_of (clean_shelved l.shelf)) ≡ written_files (named_classes 0 l.classes) (files_of (clean_shelved l.fn.shelf))
