-- Which classes of Descriptor are classes and no interfaces by where they stand in Class.
use Rattle.std.proofs.Common.{◌≡◌, ℕ, zero, suc, ◌+◌, ◌<◌, refl, sym, ap, ◌∙◌, arith, Bool, true, false, List, [], ◌∷◌}
use Rattle.std.proofs.Common.{◌++◌, length, map}
use Rattle.std.specs.Prelude.{◌==◌, ◌||◌, if◌then◌else◌, filter, slice_get, sum_by, Some}
use Rattle.std.proofs.lemmas.Bool.Decides.{nat_tests}
use Rattle.std.proofs.lemmas.List.{length-map, map-append}
use Rattle.std.proofs.lemmas.List.Elements.{filter-append}
use Rattle.std.proofs.lemmas.List.Sums.{sum_by-cons}
use Rattle.std.proofs.lemmas.Bool.{or_right}
use Rattle.cjc_capread.specs.declared.tree.ClassDescriptor.{ClassDescriptor}
use Rattle.cjc_capread.specs.declared.tree.ClassRef.TheVariants.{Inside}
use Rattle.cjc_check_rules.specs.Spots.{Placed, placed, begins, starts}
use Rattle.cjc_check_rules.specs.Complete.{interface_size, class_size}
use Rattle.cjc_check_rules.specs.Classes.{classes_at, first_class, first_interface, is_own_class}
use Rattle.cjc_check_rules.specs.Described.{all_starts}
use Rattle.cjc_world.specs.Classes.{Class}
use Rattle.cjc_world.specs.Order.{class_order, in_order}
use Rattle.cjc_components.specs.Package.{Package, world}
use Rattle.cjc_components.specs.Class.{class_info, interface_entry}
use Rattle.cjc_components.specs.Names.{class_ref}
use Rattle.cjc_components.specs.Descriptor.{class_descriptor}
use Rattle.cjc_token_proof.specs.Components.OwnNames.{HaveOwnNames}
use Rattle.cjc_token_proof.proofs.ComponentsLaws.Starts.{infos_stand_alike, ref_is_start, starts_long}
use Rattle.cjc_bytes.proofs.Numbers.{like_number}
use Rattle.cjc_bytes.proofs.Gets.{get_front, get_behind}
use Rattle.cjc_check_proof.proofs.ClassesLaws.Refs.{interface_some}

-- ---- starts

-- what stands among the starts of items begins an item
pub begins_there : {A : Type 0} (items : List (Placed A)) (k s : ℕ) → slice_get (map (λ p. p.at) items) k ≡ Some s
    → begins items s ≡ true
begins_there [] zero s e = absurd cc
begins_there [] (suc k) s e = absurd cc
begins_there (x ∷ items) zero s e = let same : x.at ≡ s = cc in ap (λ n. n == s || begins items s) same
    ∙ ap (λ b. b || begins items s) (like_number s)
begins_there (x ∷ items) (suc k) s e = or_right (x.at == s) (begins items s) (begins_there items k s e)

-- items begin from the first offset on
pub begins_above : {A : Type 0} (size : A → ℕ) (from s : ℕ) (xs : List A) → s < from → begins (placed size from xs) s
    ≡ false
unfolding placed
begins_above size from s [] lt = refl
begins_above size from s (x ∷ xs) lt =
    let here : (from == s) ≡ false = grind (arith, nat_tests, lt) in
    ap (λ b. b || begins (placed size (from + size x) xs) s) here ∙ begins_above size (from + size x) s xs
    (omega (arith, lt))

-- each item begins before the end of all, where each has a byte
pub starts_below : {A : Type 0} (size : A → ℕ) → ((x : A) → 0 < size x) → (from : ℕ) (xs : List A) (k s : ℕ)
    → slice_get (starts size from xs) k ≡ Some s → s < from + sum_by size xs
unfolding placed
starts_below size some from [] zero s e = absurd cc
starts_below size some from [] (suc k) s e = absurd cc
starts_below size some from (x ∷ xs) zero s e =
    let same : from ≡ s = cc in
    let one = some x in
    let all = sum_by-cons size x xs in
    omega (arith, same, one, all)
starts_below size some from (x ∷ xs) (suc k) s e =
    let r = starts_below size some (from + size x) xs k s e in
    let all = sum_by-cons size x xs in
    omega (arith, r, all)

-- ---- classes and interfaces

module _ (p : Package) (apart : HaveOwnNames (class_order (world p))) where
  abbrev is_class : Class → Bool
  is_class c = is_own_class (class_info (class_ref p) p) (class_ref p c.name)

  -- a class of the package is named by the start of its own info
  start_of : (k : ℕ) (c : Class) → slice_get (class_order (world p)) k ≡ Some c → (s : ℕ)
      × (slice_get (all_starts (class_info (class_ref p) p)) k ≡ Some s) × (class_ref p c.name ≡ Inside s)
  start_of k c e =
      let r = ref_is_start p apart k c e in
      (r.0, ap (λ ss. slice_get ss k) (infos_stand_alike (class_ref p) (λ name. Inside 0) p) ∙ r.1, r.2)

  abbrev first_starts : List ℕ
  first_starts = let info = class_info (class_ref p) p in starts interface_size first_interface info.interfaces

  abbrev last_starts : List ℕ
  last_starts = let info = class_info (class_ref p) p in starts class_size (first_class info) info.classes

  as_many : length first_starts ≡ length (in_order (world p) true)
  as_many = starts_long interface_size first_interface (map (interface_entry (class_ref p) (world p))
      (in_order (world p) true)) ∙ length-map (in_order (world p) true) (interface_entry (class_ref p) (world p))

  pub interface_is_none : (k : ℕ) (c : Class) → slice_get (in_order (world p) true) k ≡ Some c
      → k < length (in_order (world p) true) → is_class c ≡ false
  unfolding class_order
  interface_is_none k c e lt =
      let info = class_info (class_ref p) p in
      let r = start_of k c (get_front (in_order (world p) true) (in_order (world p) false) k lt ∙ e) in
      let many = as_many in
      let here : slice_get first_starts k ≡ Some r.0 =
      sym (get_front first_starts last_starts k (omega (arith, lt, many))) ∙ r.1 in
      ap (is_own_class info) r.2
      ∙ begins_above class_size (first_class info) r.0 info.classes (starts_below interface_size interface_some
      first_interface info.interfaces k r.0 here)

  pub class_is_one : (k : ℕ) (c : Class) → slice_get (in_order (world p) false) k ≡ Some c → is_class c ≡ true
  unfolding class_order
  class_is_one k c e =
      let info = class_info (class_ref p) p in
      let n = length (in_order (world p) true) in
      let r = start_of (n + k) c (get_behind (in_order (world p) true) (in_order (world p) false) k ∙ e) in
      let here : slice_get last_starts k ≡ Some r.0 = sym (get_behind first_starts last_starts k)
      ∙ ap (λ m. slice_get (first_starts ++ last_starts) (m + k)) as_many ∙ r.1 in
      ap (is_own_class info) r.2 ∙ begins_there (classes_at info) k r.0 here

-- ---- what is kept

kept_step : {A : Type 0} (test : A → Bool) (x : A) (xs : List A) (b : Bool) → test x ≡ b → filter test (x ∷ xs)
    ≡ (if b then x ∷ filter test xs else filter test xs)
kept_step test x xs true e = rw e refl
kept_step test x xs false e = rw e refl

all_kept : {A B : Type 0} (test : B → Bool) (f : A → B) (xs : List A) → ((k : ℕ) (x : A) → slice_get xs k ≡ Some x
    → test (f x) ≡ true) → filter test (map f xs) ≡ map f xs
all_kept test f [] h = refl
all_kept test f (x ∷ xs) h = kept_step test (f x) (map f xs) true (h 0 x refl)
    ∙ ap (λ ys. f x ∷ ys) (all_kept test f xs (λ k y e. h (suc k) y e))

none_kept : {A B : Type 0} (test : B → Bool) (f : A → B) (xs : List A) → ((k : ℕ) (x : A) → slice_get xs k ≡ Some x
    → k < length xs → test (f x) ≡ false) → filter test (map f xs) ≡ []
none_kept test f [] h = refl
none_kept test f (x ∷ xs) h =
    kept_step test (f x) (map f xs) false (h 0 x refl (omega arith))
    ∙ none_kept test f xs (λ k y e lt. h (suc k) y e (omega (arith, lt)))

-- The classes of Descriptor that are classes by Class are those that are no interfaces, in their order.
pub own_classes : (p : Package) → HaveOwnNames (class_order (world p))
    → filter (λ (d : ClassDescriptor). is_own_class (class_info (class_ref p) p) d.this_class) (map (class_descriptor p)
    (class_order (world p))) ≡ map (class_descriptor p) (in_order (world p) false)
unfolding class_order
own_classes p apart =
    let test : ClassDescriptor → Bool = λ (d : ClassDescriptor). is_own_class (class_info (class_ref p) p) d.this_class
    in
    let is = in_order (world p) true in
    let cs = in_order (world p) false in
    ap (filter test) (map-append (class_descriptor p) is cs)
    ∙ filter-append test (map (class_descriptor p) is) (map (class_descriptor p) cs)
    ∙ ap (λ ds. ds ++ filter test (map (class_descriptor p) cs)) (none_kept test (class_descriptor p) is
    (λ k c e lt. interface_is_none p apart k c e lt))
    ∙ all_kept test (class_descriptor p) cs (λ k c e. class_is_one p apart k c e)
