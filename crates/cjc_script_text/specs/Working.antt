-- What private functions ask of their callers.
use Rattle.std.specs.Prelude.{ℕ, List, length, ◌<◌, ◌^◌}
use Rattle.std.specs.List.{All}
use Rattle.cjc_list.specs.Bytes.Text.{TextLine}

-- Each word is short enough for a descriptor to be read from it.
abbrev pub AreShort : List (List ℕ) → Type 0
AreShort words = All (λ w. length w < 2 ^ 32) words

-- So is each line.
abbrev pub AreShortLines : List TextLine → Type 0
AreShortLines lines = All (λ l. length l.text < 2 ^ 32) lines
