-- Lists whose items are told by those before them.
use Rattle.std.proofs.Common.{◌≡◌, ℕ, zero, suc, ◌<◌, refl, sym, ap, subst, ◌∙◌, Bool, true, false, List, [], ◌∷◌, ◌++◌}
use Rattle.std.proofs.Common.{map, take, append_assoc, append-nil, arith, Some}
use Rattle.std.specs.Prelude.{◌||◌, ◌&&◌, slice_get, filter, if◌then◌else◌}
use Rattle.std.specs.List.{AllByRecursion, list_any}
use Rattle.cjc_world.specs.ExportFile.Writable.{EachAfter}

-- each is so at its place
pub each_at : {A : Type 0} (P : List A → A → Type 0) (before xs : List A) → ((k : ℕ) (x : A) → slice_get xs k ≡ Some x
    → P (before ++ take k xs) x) → EachAfter P before xs
each_at P before [] h = tt
each_at {A} P before (x ∷ xs) h = (
  subst (λ (b : List A). P b x) (append-nil before) (h 0 x refl),
  each_at P (before ++ x ∷ []) xs (λ k y at. subst (λ (b : List A). P b y)
      (sym (append_assoc before (x ∷ []) (take k xs))) (h (suc k) y at)),
)

-- none of those before a place passes
pub none_before : {A : Type 0} (q : A → Bool) (xs : List A) (k : ℕ) → ((j : ℕ) (y : A) → j < k → slice_get xs j ≡ Some y
    → q y ≡ false) → list_any q (take k xs) ≡ false
none_before q [] zero h = refl
none_before q [] (suc k) h = refl
none_before q (x ∷ xs) zero h = refl
none_before q (x ∷ xs) (suc k) h = neither (q x) (list_any q (take k xs)) (h 0 x (omega arith) refl)
    (none_before q xs k (λ j y lt at. h (suc j) y (omega (arith, lt)) at))
  where
    neither : (a b : Bool) → a ≡ false → b ≡ false → (a || b) ≡ false
    neither true b e f = cc
    neither false b e f = f

pub all_mapped : {A B : Type 0} (P : B → Type 0) (f : A → B) (xs : List A) → AllByRecursion (λ x. P (f x)) xs
    → AllByRecursion P (map f xs)
all_mapped P f [] h = tt
all_mapped P f (x ∷ xs) h = (h.0, all_mapped P f xs h.1)

-- what passes two tests passes the first
pub filtered : {A : Type 0} (a b : A → Bool) (xs : List A) (k : ℕ) (x : A) → slice_get (filter (λ y. a y && b y) xs) k
    ≡ Some x → (n : ℕ) × (slice_get (filter a xs) n ≡ Some x) × (b x ≡ true)
filtered a b [] k x e = cc
filtered a b (y ∷ ys) k x e = by (a y) (b y) refl k e (λ k f. filtered a b ys k x f)
  where
    by : (p q : Bool) → b y ≡ q → (k : ℕ) → slice_get (if (p && q) then y ∷ filter (λ z. a z && b z) ys
        else filter (λ z. a z && b z) ys) k ≡ Some x
        → ((k : ℕ) → slice_get (filter (λ z. a z && b z) ys) k ≡ Some x → (n : ℕ) × (slice_get (filter a ys) n ≡ Some x)
        × (b x ≡ true))
        → (n : ℕ) × (slice_get (if p then y ∷ filter a ys else filter a ys) n ≡ Some x) × (b x ≡ true)
    by true true f zero e rest = let same : y ≡ x = cc in (0, e, ap b (sym same) ∙ f)
    by true true f (suc k) e rest = let r = rest k e in (suc r.0, r.1, r.2)
    by true false f k e rest = let r = rest k e in (suc r.0, r.1, r.2)
    by false q f k e rest = rest k e
