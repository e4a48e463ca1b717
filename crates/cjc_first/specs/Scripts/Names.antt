-- When names are the same.
use Rattle.std.specs.Prelude.{ℕ, List, [], ◌∷◌, Bool, true, false, ◌==◌, ◌&&◌, ◌||◌}
use Rattle.cjc_bytes.specs.declared.fault.MemberId.{MemberId}

abbrev pub same_text : List ℕ → List ℕ → Bool
same_text [] [] = true
same_text (a ∷ xs) (b ∷ ys) = a == b && same_text xs ys
same_text _ _ = false

abbrev pub same_id : MemberId → MemberId → Bool
same_id a b = same_text a.class b.class && same_text a.name b.name && same_text a.desc b.desc

-- a name is among others
abbrev pub is_among : List ℕ → List (List ℕ) → Bool
is_among name [] = false
is_among name (n ∷ names) = same_text name n || is_among name names
