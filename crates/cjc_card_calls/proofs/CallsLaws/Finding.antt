-- The first item that passes a test stands behind those that do not.
use Rattle.std.proofs.Common.{◌≡◌, ℕ, ◌+◌, ◌<◌, List, length, get_or, drop, sym, ap, ◌∙◌, Bool, false, Option, Some}
use Rattle.std.specs.Prelude.{if◌then◌else◌}
use Rattle.std.specs.List.{find}
use Rattle.std.proofs.lemmas.List.{drop_more}

pub find_past : {A : Type 0} (test : A → Bool) (xs : List A) (i : ℕ) (d : A) (total : Option A) → i < length xs
    → test (get_or xs i d) ≡ false → find test (drop i xs) ≡ total → find test (drop (i + 1) xs) ≡ total
find_past {A} test xs i d total lt past so_far =
    ap (λ (b : Bool). if b then Some (get_or xs i d) else find test (drop (i + 1) xs)) (sym past)
    ∙ ap (λ (ys : List A). find test ys) (sym (drop_more xs i d lt))
    ∙ so_far
