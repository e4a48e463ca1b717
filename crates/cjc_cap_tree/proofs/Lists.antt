-- What lists have at their places.
use Rattle.std.proofs.Common.{◌≡◌, ℕ, zero, suc, ◌+◌, ◌<◌, ◌≤◌, Bool, true, false, List, [], ◌∷◌, ◌++◌, map, length, take, get_or, refl, sym, ap, ◌∙◌, arith, add-one, Option, Some, None}
use Rattle.std.specs.Prelude.{◌||◌, slice_get, option_map, unwrap_or, if◌then◌else◌}
use Rattle.std.specs.List.{list_any, range_with_len}
use Rattle.std.proofs.lemmas.List.{map-append, take_more}

-- ---- tests

test_more : {A : Type 0} (p : A → Bool) (xs : List A) (k : ℕ) (x : A) → slice_get xs k ≡ Some x → p x ≡ false → list_any p (take k xs) ≡ false → list_any p (take (suc k) xs) ≡ false
test_more p [] k x e isnt so_far = cc
test_more p (y ∷ ys) zero x e isnt so_far = let same : y ≡ x = cc in ap (λ b. b || false) (ap p same ∙ isnt)
test_more p (y ∷ ys) (suc k) x e isnt so_far = by (p y) so_far (test_more p ys k x e isnt)
  where
    by : (b : Bool) → (b || list_any p (take k ys)) ≡ false → (list_any p (take k ys) ≡ false → list_any p (take (suc k) ys) ≡ false) → (b || list_any p (take (suc k) ys)) ≡ false
    by true f rest = cc
    by false f rest = rest f

-- one more that does not pass
pub none_more : {A : Type 0} (p : A → Bool) (xs : List A) (k : ℕ) (x : A) → slice_get xs k ≡ Some x → p x ≡ false → list_any p (take k xs) ≡ false → list_any p (take (k + 1) xs) ≡ false
none_more p xs k x e isnt so_far = ap (λ n. list_any p (take n xs)) (add-one k) ∙ test_more p xs k x e isnt so_far

-- one that passes
pub some_passes : {A : Type 0} (p : A → Bool) (xs : List A) (k : ℕ) (x : A) → slice_get xs k ≡ Some x → p x ≡ true → list_any p xs ≡ true
some_passes p [] k x e is = cc
some_passes p (y ∷ ys) zero x e is = let same : y ≡ x = cc in ap (λ b. b || list_any p ys) (ap p same ∙ is)
some_passes p (y ∷ ys) (suc k) x e is = by (p y) (some_passes p ys k x e is)
  where
    by : (b : Bool) → list_any p ys ≡ true → (b || list_any p ys) ≡ true
    by true f = refl
    by false f = f

-- none passes
pub none_passes : {A : Type 0} (p : A → Bool) (xs : List A) (k : ℕ) → slice_get xs k ≡ None → list_any p (take k xs) ≡ false → list_any p xs ≡ false
none_passes p [] k e so_far = refl
none_passes p (y ∷ ys) zero e so_far = cc
none_passes p (y ∷ ys) (suc k) e so_far = by (p y) so_far (none_passes p ys k e)
  where
    by : (b : Bool) → (b || list_any p (take k ys)) ≡ false → (list_any p (take k ys) ≡ false → list_any p ys ≡ false) → (b || list_any p ys) ≡ false
    by true f rest = cc
    by false f rest = rest f

pub any_of_map : {A B : Type 0} (p : B → Bool) (f : A → B) (xs : List A) → list_any p (map f xs) ≡ list_any (λ x. p (f x)) xs
any_of_map p f [] = refl
any_of_map p f (x ∷ xs) = ap (λ b. p (f x) || b) (any_of_map p f xs)

-- ---- maps

pub same_map : {A B : Type 0} (f g : A → B) (xs : List A) → ((x : A) → f x ≡ g x) → map f xs ≡ map g xs
same_map f g [] e = refl
same_map f g (x ∷ xs) e = ap (λ y. y ∷ map f xs) (e x) ∙ ap (λ ys. g x ∷ ys) (same_map f g xs e)

-- one item more of a list that is mapped
pub map_next : {A B : Type 0} (f : A → B) (row : List B) (xs : List A) (i : ℕ) (x : A) (y : B) → i < length xs → x ≡ get_or xs i x → y ≡ f x → row ≡ map f (take i xs) → row ++ y ∷ [] ≡ map f (take (i + 1) xs)
map_next f row xs i x y lt is e so_far =
    ap (λ r. r ++ y ∷ []) so_far
    ∙ ap (λ z. map f (take i xs) ++ z ∷ []) (e ∙ ap f is)
    ∙ sym (map-append f (take i xs) (get_or xs i x ∷ []))
    ∙ ap (map f) (sym (take_more xs i x lt))

-- two lists one behind the other that are each told by numbers
pub both_told : {A : Type 0} (f : ℕ → Option A) (a b : List A) (x y : List ℕ) → map Some a ≡ map f x → map Some b ≡ map f y → map Some (a ++ b) ≡ map f (x ++ y)
both_told f a b x y e g = map-append Some a b ∙ ap (λ l. l ++ map Some b) e ∙ ap (λ l. map f x ++ l) g ∙ sym (map-append f x y)

-- ---- numbers from one on

pub range_at : (a count k : ℕ) → k < count → slice_get (range_with_len a count) k ≡ Some (a + k)
range_at a zero k lt = absurd (omega arith)
range_at a (suc count) zero lt = let z : a ≡ a + 0 = omega arith in ap (λ n. Some n) z
range_at a (suc count) (suc k) lt =
    let less : k < count = omega arith in
    let s : a + 1 + k ≡ a + suc k = omega arith in
    range_at (a + 1) count k less ∙ ap (λ n. Some n) s

pub range_past : (a count k : ℕ) → count ≤ k → slice_get (range_with_len a count) k ≡ None
range_past a zero k le = refl
range_past a (suc count) zero le = absurd (omega arith)
range_past a (suc count) (suc k) le = let less : count ≤ k = omega arith in range_past (a + 1) count k less
