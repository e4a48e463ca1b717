-- Items of lists, and lists of places that are empty.
use Rattle.std.proofs.Common.{◌≡◌, ℕ, zero, suc, ◌+◌, ◌<◌, ◌≤◌, ◌==◌, Bool, true, false, List, [], ◌∷◌, ◌++◌, length}
use Rattle.std.proofs.Common.{refl, ap, ◌∙◌, arith, inl, inr}
use Rattle.std.specs.Prelude.{◌||◌, ◌⊎◌, Some, map, flat_map, slice_get, sum_by}
use Rattle.std.proofs.lemmas.Bool.Decides.{nat_tests}
use Rattle.std.proofs.lemmas.List.Sums.{sum_by-cons}
use Rattle.cjc_check_rules.specs.declared.spot.ComponentPlace.{ComponentPlace}
use Rattle.cjc_check_rules.specs.Spots.{along, beside, placed, starts, begins}
use Rattle.cjc_vtable.proofs.Filed.{Has, at_front, behind}
use Rattle.cjc_token_proof.proofs.ComponentsLaws.Tests.{none_in_both}
use Rattle.cjc_bytes.proofs.Numbers.{like_number}

-- ---- items

pub has-front : {A : Type 0} (x : A) (a b : List A) → Has x a → Has x (a ++ b)
has-front x [] b h = elim h [ ]
has-front x (y ∷ a) b at_front = at_front
has-front x (y ∷ a) b (behind h) = behind (has-front x a b h)

pub has-back : {A : Type 0} (x : A) (a b : List A) → Has x b → Has x (a ++ b)
has-back x [] b h = h
has-back x (y ∷ a) b h = behind (has-back x a b h)

pub has-other : {A : Type 0} (x y : A) (xs ys : List A) → (Has x xs → Has x ys) → Has x (y ∷ xs) → Has x (y ∷ ys)
has-other x y xs ys f at_front = at_front
has-other x y xs ys f (behind h) = behind (f h)

pub has-map : {A B : Type 0} (f : A → B) (x : A) (xs : List A) → Has x xs → Has (f x) (map f xs)
has-map f x [] h = elim h [ ]
has-map f x (y ∷ xs) at_front = at_front
has-map f x (y ∷ xs) (behind h) = behind (has-map f x xs h)

pub has-flat : {A B : Type 0} (f : A → List B) (x : A) (y : B) (xs : List A) → Has x xs → Has y (f x)
    → Has y (flat_map f xs)
has-flat f x y [] h g = elim h [ ]
has-flat f x y (z ∷ xs) at_front g = has-front y (f z) (flat_map f xs) g
has-flat f x y (z ∷ xs) (behind h) g = has-back y (f z) (flat_map f xs) (has-flat f x y xs h g)

pub has-mapped : {A B : Type 0} (f : A → B) (y : B) (xs : List A) → Has y (map f xs) → (x : A) × Has x xs × (f x ≡ y)
has-mapped f y [] h = elim h [ ]
has-mapped f y (x ∷ xs) at_front = (x, at_front, refl)
has-mapped f y (x ∷ xs) (behind h) = let r = has-mapped f y xs h in (r.0, behind r.1, r.2)

-- ---- by place

pub get-either : {A : Type 0} (xs ys : List A) (k : ℕ) (x : A) → slice_get (xs ++ ys) k ≡ Some x
    → (slice_get xs k ≡ Some x) ⊎ ((j : ℕ) × (slice_get ys j ≡ Some x))
get-either [] ys k x e = inr (k, e)
get-either (y ∷ xs) ys zero x e = inl e
get-either (y ∷ xs) ys (suc k) x e = get-either xs ys k x e

pub get-map : {A B : Type 0} (f : A → B) (xs : List A) (k : ℕ) (x : A) → slice_get xs k ≡ Some x
    → slice_get (map f xs) k ≡ Some (f x)
get-map f [] k x e = absurd (cc)
get-map f (y ∷ xs) zero x e = let is : y ≡ x = cc in ap (λ z. Some (f z)) is
get-map f (y ∷ xs) (suc k) x e = get-map f xs k x e

-- ---- nothing is broken

pub none_along : {X A : Type 0} (size : A → ℕ) (broken : ℕ → A → List ComponentPlace) (f : X → A) (at : ℕ) (xs : List X)
    → ((at : ℕ) (x : X) → Has x xs → broken at (f x) ≡ []) → along size broken at (map f xs) ≡ []
unfolding along
none_along size broken f at [] h = refl
none_along size broken f at (x ∷ xs) h = none_in_both (h at x at_front) (none_along size broken f (at + size (f x)) xs
    (λ k y g. h k y (behind g)))

pub none_beside : {X A B : Type 0} (size : A → ℕ) (broken : ℕ → A → B → List ComponentPlace) (f : X → A) (g : X
    → B) (at : ℕ) (xs : List X) → ((at : ℕ) (x : X) → Has x xs → broken at (f x) (g x) ≡ [])
    → beside size broken at (map f xs) (map g xs) ≡ []
unfolding beside
none_beside size broken f g at [] h = refl
none_beside size broken f g at (x ∷ xs) h = none_in_both (h at x at_front) (none_beside size broken f g
    (at + size (f x)) xs (λ k y e. h k y (behind e)))

-- ---- where items begin

pub begins_where : {A : Type 0} (size : A → ℕ) (from : ℕ) (xs : List A) (k : ℕ) → k < length xs
    → (start : ℕ) × (slice_get (starts size from xs) k ≡ Some start) × (begins (placed size from xs) start ≡ true)
    × (start ≤ from + sum_by size xs)
unfolding placed
begins_where size from [] k lt = absurd (omega (arith, lt))
begins_where size from (x ∷ xs) zero lt = (
  from,
  refl,
  ap (λ b. b || begins (placed size (from + size x) xs) from)
      (like_number from),
  omega arith,
)
begins_where size from (x ∷ xs) (suc k) lt =
    let r = begins_where size (from + size x) xs k (omega (arith, lt)) in
    let s = sum_by-cons size x xs in
    let e = r.3 in
    (r.0, r.1, ap (λ b. from == r.0 || b) r.2 ∙ last (from == r.0), omega (arith, s, e))
  where
    last : (b : Bool) → (b || true) ≡ true
    last true = refl
    last false = refl

pub begins_at : {A : Type 0} (size : A → ℕ) (from : ℕ) (xs : List A) (k s : ℕ) → slice_get (starts size from xs) k
    ≡ Some s → begins (placed size from xs) s ≡ true
unfolding placed
begins_at size from [] k s e = absurd (cc)
begins_at size from (x ∷ xs) zero s e = let is : from ≡ s = cc
    in ap (λ n. n == s || begins (placed size (from + size x) xs) s) is
    ∙ ap (λ b. b || begins (placed size (from + size x) xs) s) (like_number s)
begins_at size from (x ∷ xs) (suc k) s e = last (from == s) (begins_at size (from + size x) xs k s e)
  where
    last : (b : Bool) {c : Bool} → c ≡ true → (b || c) ≡ true
    last true e = refl
    last false e = e

pub start_within : {A : Type 0} (size : A → ℕ) (from : ℕ) (xs : List A) (k s : ℕ) → ((x : A) → 0 < size x)
    → slice_get (starts size from xs) k ≡ Some s → (from ≤ s) × (s < from + sum_by size xs)
unfolding placed
start_within size from [] k s some e = absurd (cc)
start_within size from (x ∷ xs) zero s some e =
    let is : from ≡ s = cc in
    let sum = sum_by-cons size x xs in
    let here = some x in
    (omega (arith, is), omega (arith, is, sum, here))
start_within size from (x ∷ xs) (suc k) s some e =
    let r = start_within size (from + size x) xs k s some e in
    let sum = sum_by-cons size x xs in
    let low = r.0 in
    let high = r.1 in
    (omega (arith, low), omega (arith, high, sum))

pub starts_rise : {A : Type 0} (size : A → ℕ) (from : ℕ) (xs : List A) (j k a b : ℕ) → ((x : A) → 0 < size x) → j < k
    → slice_get (starts size from xs) j ≡ Some a → slice_get (starts size from xs) k ≡ Some b → a < b
unfolding placed
starts_rise size from [] j k a b some lt e f = absurd (cc)
starts_rise size from (x ∷ xs) j zero a b some lt e f = absurd (omega (arith, lt))
starts_rise size from (x ∷ xs) zero (suc k) a b some lt e f =
    let is : from ≡ a = cc in
    let r = start_within size (from + size x) xs k b some f in
    let low = r.0 in
    let here = some x in
    omega (arith, is, low, here)
starts_rise size from (x ∷ xs) (suc j) (suc k) a b some lt e f = starts_rise size (from + size x) xs j k a b some
    (omega (arith, lt)) e f

pub begins_above : {A : Type 0} (size : A → ℕ) (from : ℕ) (xs : List A) (n : ℕ) → n < from
    → begins (placed size from xs) n ≡ false
unfolding placed
begins_above size from [] n lt = refl
begins_above size from (x ∷ xs) n lt =
    let no : (from == n) ≡ false = grind (arith, nat_tests, lt) in
    ap (λ b. b || begins (placed size (from + size x) xs) n) no ∙ begins_above size (from + size x) xs n (omega (
      arith,
      lt,
    ))

-- with the start of each item
pub none_placed : {X A : Type 0} (size : A → ℕ) (broken : ℕ → A → List ComponentPlace) (f : X
    → A) (from : ℕ) (xs : List X) → ((k s : ℕ) (x : X) → slice_get xs k ≡ Some x
    → slice_get (starts size from (map f xs)) k ≡ Some s → broken s (f x) ≡ [])
    → along size broken from (map f xs) ≡ []
unfolding along placed
none_placed size broken f from [] h = refl
none_placed size broken f from (x ∷ xs) h = none_in_both (h 0 from x refl refl) (none_placed size broken f
    (from + size (f x)) xs (λ k s y e g. h (suc k) s y e g))
