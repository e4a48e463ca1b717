use Rattle.std.proofs.Common.{◌≡◌, drop}
use Rattle.cjc_cmd_card.specs.Shelf.Command.Publish.{written_files}
use Rattle.cjc_cmd_card.specs.Shelf.Memory.{clean_shelved, files_of}
use Rattle.cjc_cmd_make.proofs.report.shelf.add_files.Given as goal

abbrev pub invariant-loop-file : goal.invariant-loop-file
invariant-loop-file l = written_files (drop l.file-index l.files) (files_of (clean_shelved l.shelf))
    ≡ written_files l.files (files_of (clean_shelved l.fn.shelf))
