-- The order of two ranks as a test.
use Rattle.std.specs.Prelude.{ℕ, List, [], ◌∷◌, Bool, true, false, ◌&&◌, ◌||◌, ◌==◌, nat_lt}

-- whether the first number that differs is the lower one, or none differs
abbrev pub is_up_to : List ℕ → List ℕ → Bool
is_up_to [] ys = true
is_up_to (x ∷ xs) [] = false
is_up_to (x ∷ xs) (y ∷ ys) = nat_lt x y || ((x == y) && is_up_to xs ys)
