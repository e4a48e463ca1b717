-- Items that stand one behind the other.
use Rattle.std.specs.Prelude.{ℕ, ◌+◌, List, [], ◌∷◌, Bool, ◌==◌, Option, option_map}
use Rattle.std.specs.List.{list_any, find}

-- an item and the offset of its first byte
pub record Placed (A : Type 0) : Type 0 where
  pub at : ℕ
  pub item : A

-- items of these sizes in bytes, from an offset on
abbrev pub placed : {A : Type 0} → (size : A → ℕ) → (from : ℕ) → List A → List (Placed A)
placed size from [] = []
placed size from (x ∷ xs) = record { at = from; item = x } ∷ placed size (from + size x) xs

-- an item begins at this offset
abbrev pub begins : {A : Type 0} → List (Placed A) → ℕ → Bool
begins items offset = list_any (λ p. p.at == offset) items

-- the item that begins at this offset
abbrev pub item_at : {A : Type 0} → List (Placed A) → ℕ → Option A
item_at items offset = option_map (λ p. p.item) (find (λ p. p.at == offset) items)
