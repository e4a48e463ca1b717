use Rattle.std.proofs.Common.{◌≡◌, ℕ, [], drop}
use Rattle.std.specs.Prelude.{option_map}
use Rattle.cjc_card_semantics.specs.Machine.Classes.{or_else, with_token}
use Rattle.cjc_card_calls.specs.Files.Files.{line_by, line_of}
use Rattle.cjc_card_calls.proofs.files.files.file_of.Given as goal

abbrev pub invariant-loop-class : goal.invariant-loop-class
invariant-loop-class l =
    ((x : ℕ) → or_else (line_by l.file x) (option_map (line_of l.names) (with_token (drop l.class-index l.classes) x))
    ≡ option_map (line_of l.names) (with_token l.classes x))
    × (l.file.nothing ≡ [])
