-- The constants of a written file: each that is needed stands in the pool at its index, and its name does too.
use Rattle.std.proofs.Common.{◌≤◌, ◌≡◌, ℕ, suc, ◌+◌, ◌<◌, ◌^◌, Bool, true, false, cond, ltb, not, ◌||◌, List, [], ◌∷◌}
use Rattle.std.proofs.Common.{◌++◌, Some, None, unwrap_or, slice_get, length, get_or, refl, sym, ap, ◌∙◌, true≢false}
use Rattle.std.proofs.Common.{arith, length-append}
use Rattle.std.specs.List.{AllByRecursion, flat_map, list_any, position_or_len}
use Rattle.std.proofs.lemmas.Bool.{lt-ltb, ltb-true}
use Rattle.std.proofs.lemmas.List.Folds.{list_any-append}
use Rattle.std.proofs.lemmas.List.Sums.{passes_at_first}
use Rattle.std.proofs.lemmas.Option.{slice_get-get_or}
use Rattle.indexmap.specs.IndexSet.{insert_all, insert_key}
use Rattle.cjc_export.specs.Constant.{Constant, same}
use Rattle.cjc_export.specs.Working.Same.{same-Decides}
use Rattle.cjc_export.specs.Written.{index_of}
use Rattle.cjc_export.specs.Writable.{EachAfter}

-- The pool has the constant.
abbrev pub Has : List Constant → Constant → Type 0
Has pool c = list_any (same c) pool ≡ true

-- ---- indices

below_by : (b : Bool) (n m : ℕ) → (b ≡ false → n < m) → cond (not b) (1 + n) 0 < suc m
below_by true n m f = omega arith
below_by false n m f = let lt : n < m = f refl in omega arith

below : (p : Constant → Bool) (xs : List Constant) → list_any p xs ≡ true → position_or_len p xs < length xs
below p [] h = absurd (true≢false (sym h))
below p (x ∷ xs) h = below_by (p x) (position_or_len p xs) (length xs)
    (λ e. below p xs (sym (ap (λ b. b || list_any p xs) e) ∙ h))

index_is : (pool : List Constant) (c : Constant) → position_or_len (same c) pool < length pool
    → index_of pool c ≡ position_or_len (same c) pool
unfolding index_of
index_is pool c lt = rw (lt-ltb (position_or_len (same c) pool) (length pool) lt) refl

pub found_at : (pool : List Constant) (c : Constant) → Has pool c → slice_get pool (index_of pool c) ≡ Some c
found_at pool c h =
    let lt : position_or_len (same c) pool < length pool = below (same c) pool h in
    let is : c ≡ get_or pool (position_or_len (same c) pool) c =
    (same-Decides c (get_or pool (position_or_len (same c) pool) c)).0 (passes_at_first (same c) pool c lt) in
    rw (index_is pool c lt) (slice_get-get_or pool (position_or_len (same c) pool) c lt ∙ ap Some (sym is))

small : (b : Bool) (n m : ℕ) → ltb n m ≡ b → m < 2 ^ 16 → unwrap_or (cond b (Some n) None) 0 < 2 ^ 16
small true n m e h = let lt : n < m = ltb-true n m e in omega arith
small false n m e h = omega arith

pub index_small : (pool : List Constant) (c : Constant) → length pool < 2 ^ 16 → index_of pool c < 2 ^ 16
unfolding index_of
index_small pool c h = small (ltb (position_or_len (same c) pool) (length pool)) (position_or_len (same c) pool)
    (length pool) refl h

-- ---- what is in the pool

own_by : (b : Bool) (ks : List Constant) (x : Constant) → list_any (same x) ks ≡ b → Has (cond b ks (ks ++ x ∷ [])) x
own_by true ks x e = e
own_by false ks x e =
    let s : same x x ≡ true = (same-Decides x x).1 refl in
    rw (list_any-append (same x) ks (x ∷ []), e, s) refl

kept_by : (b : Bool) (ks : List Constant) (x c : Constant) → Has ks c → Has (cond b ks (ks ++ x ∷ [])) c
kept_by true ks x c h = h
kept_by false ks x c h = rw (list_any-append (same c) ks (x ∷ []), h) refl

kept : (ks xs : List Constant) (c : Constant) → Has ks c → Has (insert_all same ks xs) c
kept ks [] c h = h
kept ks (x ∷ xs) c h = kept (insert_key same ks x) xs c (kept_by (list_any (same x) ks) ks x c h)

pub all_in : (ks xs : List Constant) → AllByRecursion (Has (insert_all same ks xs)) xs
all_in ks [] = tt
all_in ks (x ∷ xs) = (
  kept (insert_key same ks x) xs x (own_by (list_any (same x) ks) ks x refl),
  all_in (insert_key same ks x) xs,
)

-- A pool has no more constants than were added.
longer_by : (b : Bool) (ks : List Constant) (x : Constant) → length (cond b ks (ks ++ x ∷ [])) ≤ length ks + 1
longer_by true ks x = omega arith
longer_by false ks x = omega (arith, length-append ks (x ∷ []))

pub length-insert_all : (ks xs : List Constant) → length (insert_all same ks xs) ≤ length ks + length xs
length-insert_all ks [] = omega arith
length-insert_all ks (x ∷ xs) =
    let one : length (insert_key same ks x) ≤ length ks + 1 = longer_by (list_any (same x) ks) ks x in
    let rest : length (insert_all same (insert_key same ks x) xs) ≤ length (insert_key same ks x) + length xs =
    length-insert_all (insert_key same ks x) xs in
    omega arith

-- ---- what holds of each

module _ {A : Type 0} where
  pub all_append : (P : A → Type 0) (xs ys : List A) → AllByRecursion P xs → AllByRecursion P ys
      → AllByRecursion P (xs ++ ys)
  all_append P [] ys h g = g
  all_append P (x ∷ xs) ys h g = (h.0, all_append P xs ys h.1 g)

  pub all_front : (P : A → Type 0) (xs ys : List A) → AllByRecursion P (xs ++ ys) → AllByRecursion P xs
  all_front P [] ys h = tt
  all_front P (x ∷ xs) ys h = (h.0, all_front P xs ys h.1)

  pub all_back : (P : A → Type 0) (xs ys : List A) → AllByRecursion P (xs ++ ys) → AllByRecursion P ys
  all_back P [] ys h = h
  all_back P (x ∷ xs) ys h = all_back P xs ys h.1

put_by : (P : Constant → Type 0) (b : Bool) (ks : List Constant) (x : Constant) → AllByRecursion P ks → P x
    → AllByRecursion P (cond b ks (ks ++ x ∷ []))
put_by P true ks x h p = h
put_by P false ks x h p = all_append P ks (x ∷ []) h (p, tt)

pub all_inserted : (P : Constant → Type 0) (ks xs : List Constant) → AllByRecursion P ks → AllByRecursion P xs
    → AllByRecursion P (insert_all same ks xs)
all_inserted P ks [] h g = h
all_inserted P ks (x ∷ xs) h g = all_inserted P (insert_key same ks x) xs (put_by P (list_any (same x) ks) ks x h g.0)
    g.1

-- from one property of what each item of a list needs to another
pub all_mapped : {A : Type 0} (f : A → List Constant) (P Q : Constant → Type 0) → ((x : A) → AllByRecursion P (f x)
    → AllByRecursion Q (f x)) → (xs : List A) → AllByRecursion P (flat_map f xs) → AllByRecursion Q (flat_map f xs)
all_mapped f P Q each [] h = tt
all_mapped f P Q each (x ∷ xs) h =
    all_append Q (f x) (flat_map f xs) (each x (all_front P (f x) (flat_map f xs) h)) (all_mapped f P Q each xs
    (all_back P (f x) (flat_map f xs) h))

pub all_after : {A : Type 0} (f : A → List Constant) (Q : Constant → Type 0) (P : List A → A → Type 0)
    → ((before : List A) (x : A) → P before x → AllByRecursion Q (f x)) → (before xs : List A) → EachAfter P before xs
    → AllByRecursion Q (flat_map f xs)
all_after f Q P each before [] h = tt
all_after f Q P each before (x ∷ xs) h = all_append Q (f x) (flat_map f xs) (each before x h.0)
    (all_after f Q P each (before ++ x ∷ []) xs h.1)

pub all_of_each : {A : Type 0} (f : A → List Constant) (Q : Constant → Type 0) (P : A → Type 0)
    → ((x : A) → P x → AllByRecursion Q (f x)) → (xs : List A) → AllByRecursion P xs → AllByRecursion Q (flat_map f xs)
all_of_each f Q P each [] h = tt
all_of_each f Q P each (x ∷ xs) h = all_append Q (f x) (flat_map f xs) (each x h.0) (all_of_each f Q P each xs h.1)
