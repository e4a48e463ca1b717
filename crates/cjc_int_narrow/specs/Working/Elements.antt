-- An index below a value of one word or two.
use Rattle.std.specs.Prelude.{ℕ, ◌+◌, List, [], ◌∷◌, ◌++◌, Bool}
use Rattle.cjc_int_mode.specs.CapRead.Card as card
use Rattle.cjc_ncode.specs.declared.narrow.NInsn.{NInsn}
use Rattle.cjc_ncode.specs.declared.narrow.NInsn.TheVariants.{Words}
use Rattle.cjc_ncode.specs.IntCode.IntCode.{guard}

-- a value of so many words goes below the index, which becomes one word, and above it again
abbrev pub index_below : (words : ℕ) → (inside : Bool) → (here : ℕ) → List NInsn
index_below words inside here = Words card.swap_x words 2 ∷ (guard inside (here + 1) ++ Words card.swap_x 1 words ∷ [])
