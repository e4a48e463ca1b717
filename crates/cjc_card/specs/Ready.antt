-- What is kept of a package when it is ready to be run.
use Rattle.std.specs.Prelude.{◌≡◌, true}
use Rattle.cjc_card_calls.specs.declared.files.files.Files.{Files}
use Rattle.cjc_card_calls.specs.Files.Files.{AreFiles}
use Rattle.cjc_card_calls.specs.declared.lines.lines.Lines.{Lines}
use Rattle.cjc_card_calls.specs.Lines.Handlers.{are_all_near}
use Rattle.cjc_card_calls.specs.Lines.Lines.{AreLines}
use Rattle.cjc_card_calls.specs.LowerCardLink.declared.tables.Tables.{Tables}
use Rattle.cjc_card_calls.specs.LowerCardLink.Tables.{AreKept, loaded_of}

-- The tables are those of the package, and the lines and the files those of the group; 32 bits count the offsets of
-- handlers.
pub record AreReady (t : Tables) (lines : Lines) (files : Files) : Type 0 where
  pub are_kept : AreKept t
  pub are_lines : AreLines (loaded_of t) lines
  pub are_files : AreFiles (loaded_of t) files
  pub are_near : are_all_near (loaded_of t) ≡ true
