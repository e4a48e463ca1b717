-- Whether one of a list passes a test, one item further.
use Rattle.std.proofs.Common.{◌≡◌, ℕ, ◌<◌, ◌≤◌, ◌+◌, refl, sym, ap, ◌∙◌, arith, Bool, true, false, List, [], ◌∷◌}
use Rattle.std.proofs.Common.{length, get_or, drop, add-one, slice_get, Some, suc}
use Rattle.std.specs.Prelude.{◌||◌, map}
use Rattle.std.specs.List.{list_any}
use Rattle.std.proofs.Math.Seq.{drop-cons}
use Rattle.std.proofs.lemmas.Grind.{common_steps}

pub any_next : {A : Type 0} (p : A → Bool) (xs : List A) (i : ℕ) (d : A) → i < length xs → list_any p (drop i xs)
    ≡ (p (get_or xs i d) || list_any p (drop (i + 1) xs))
any_next p xs i d l = ap (list_any p) (drop-cons xs i d l) ∙ ap (λ n. p (get_or xs i d) || list_any p (drop n xs))
    (sym (add-one i))

pub any_here : {A : Type 0} (p : A → Bool) (xs : List A) (i : ℕ) (d : A) (all : Bool) → i < length xs
    → true ≡ p (get_or xs i d) → list_any p (drop i xs) ≡ all → true ≡ all
any_here p xs i d all l e inv = ap (λ b. b || list_any p (drop (i + 1) xs)) e ∙ sym (any_next p xs i d l) ∙ inv

pub any_on : {A : Type 0} (p : A → Bool) (xs : List A) (i : ℕ) (d : A) (all : Bool) → i < length xs
    → false ≡ p (get_or xs i d) → list_any p (drop i xs) ≡ all → list_any p (drop (i + 1) xs) ≡ all
any_on p xs i d all l e inv = ap (λ b. b || list_any p (drop (i + 1) xs)) e ∙ sym (any_next p xs i d l) ∙ inv

pub any_end : {A : Type 0} (p : A → Bool) (xs : List A) (i : ℕ) (all : Bool) → length xs ≤ i → list_any p (drop i xs)
    ≡ all → false ≡ all
any_end p xs i all l inv = let e : drop i xs ≡ [] = grind (arith, common_steps) in sym (ap (list_any p) e) ∙ inv

pub any_of_map : {A B : Type 0} (p : B → Bool) (f : A → B) (xs : List A) → list_any p (map f xs)
    ≡ list_any (λ x. p (f x)) xs
any_of_map p f [] = refl
any_of_map p f (x ∷ xs) = ap (λ b. p (f x) || b) (any_of_map p f xs)

-- and where one after the other does not, none does
pub none_passes : {A : Type 0} (p : A → Bool) (xs : List A) → ((k : ℕ) (x : A) → slice_get xs k ≡ Some x → p x ≡ false)
    → list_any p xs ≡ false
none_passes p [] h = refl
none_passes p (x ∷ xs) h = ap (λ b. b || list_any p xs) (h 0 x refl) ∙ none_passes p xs (λ k y e. h (suc k) y e)
