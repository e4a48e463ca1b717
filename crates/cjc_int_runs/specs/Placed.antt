-- Reached instructions in the order of their offsets.
use Rattle.std.specs.Prelude.{◌≡◌, ℕ, ◌<◌, List, [], ◌∷◌, Some, slice_get}
use Rattle.cjc_ncode.specs.IntCode.IntCode.{Reached}

-- the offset of a reached instruction
abbrev pub offset_in : Reached → ℕ
offset_in i = let j = i.insn in j.at

-- Each has a lower offset than all behind it.
pub data Ascends : List Reached → Type 0 where
  ascends_none : Ascends []
  ascends_more : {i : Reached} {reached : List Reached} → ((k : ℕ) (x : Reached) → slice_get reached k ≡ Some x
      → offset_in i < offset_in x) → Ascends reached → Ascends (i ∷ reached)
