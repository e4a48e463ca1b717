-- The first that is there, found one by one.
use Rattle.std.proofs.Common.{◌≡◌, ℕ, ◌+◌, ◌<◌, ◌≤◌, List, [], ◌∷◌, length, get_or, drop, refl, sym, ap, ◌∙◌, Option}
use Rattle.std.proofs.Common.{Some, None}
use Rattle.std.specs.Prelude.{option_map}
use Rattle.std.proofs.lemmas.List.{drop_more, drop_all}
use Rattle.cjc_card_semantics.specs.Machine.Classes.{or_else}

pub or_none : {A : Type 0} (o : Option A) → or_else o None ≡ o
or_none None = refl
or_none (Some x) = refl

pub or_assoc : {A : Type 0} (a b c : Option A) → or_else (or_else a b) c ≡ or_else a (or_else b c)
or_assoc None b c = refl
or_assoc (Some x) b c = refl

pub or_map : {A B : Type 0} (f : A → B) (a b : Option A) → option_map f (or_else a b) ≡ or_else (option_map f a)
    (option_map f b)
or_map f None b = refl
or_map f (Some x) b = refl

-- One more item of a list was noted, where the list gives from each number on what its first item gives or else what
-- the rest gives.
pub note_more : {A B : Type 0} (gives : ℕ → List A → Option B) (one : ℕ → A → Option B)
    → ((n : ℕ) (x : A) (xs : List A) → gives n (x ∷ xs) ≡ or_else (one n x) (gives (n + 1) xs))
    → (i : ℕ) (x d : A) (xs : List A) (old new total : Option B) → i < length xs → x ≡ get_or xs i d
    → new ≡ or_else old (one i x)
    → or_else old (gives i (drop i xs)) ≡ total → or_else new (gives (i + 1) (drop (i + 1) xs)) ≡ total
note_more {A} {B} gives one step i x d xs old new total lt is n so_far =
    let e : drop i xs ≡ x ∷ drop (i + 1) xs = drop_more xs i d lt ∙ ap (λ (y : A). y ∷ drop (i + 1) xs) (sym is) in
    ap (λ (o : Option B). or_else o (gives (i + 1) (drop (i + 1) xs))) n
    ∙ or_assoc old (one i x) (gives (i + 1) (drop (i + 1) xs))
    ∙ ap (λ (o : Option B). or_else old o) (sym (step i x (drop (i + 1) xs)))
    ∙ ap (λ (ys : List A). or_else old (gives i ys)) (sym e)
    ∙ so_far

pub note_all : {A B : Type 0} (gives : ℕ → List A → Option B) → ((n : ℕ) → gives n [] ≡ None)
    → (i : ℕ) (xs : List A) (done total : Option B) → length xs ≤ i
    → or_else done (gives i (drop i xs)) ≡ total → done ≡ total
note_all {A} {B} gives none i xs done total le so_far =
    sym (or_none done) ∙ ap (λ (o : Option B). or_else done o) (sym (none i))
    ∙ ap (λ (ys : List A). or_else done (gives i ys)) (sym (drop_all i xs le)) ∙ so_far
