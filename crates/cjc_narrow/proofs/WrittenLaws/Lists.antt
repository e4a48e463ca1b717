-- A list from an index on.
use Rattle.std.proofs.Common.{◌≡◌, ℕ, ◌+◌, ◌<◌, List, ◌∷◌, get_or, drop, drop-cons, add-one, length, refl}

pub from_index : {A : Type 0} (xs : List A) (i : ℕ) (d : A) → i < length xs → drop i xs ≡ get_or xs i d
    ∷ drop (i + 1) xs
from_index xs i d lt = rw (add-one, drop-cons xs i d) refl
