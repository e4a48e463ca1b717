-- The card has few types: those of a package's classes and arrays are no more than a cell may have.
use Rattle.std.proofs.Common.{◌≡◌, ℕ, zero, suc, ◌+◌, ◌*◌, ◌<◌, ◌≤◌, ◌==◌, refl, sym, ap, subst, ◌∙◌, arith}
use Rattle.std.proofs.Common.{inl, inr, Bool, true, false, List, [], ◌∷◌, ◌++◌, length, length-append}
use Rattle.std.specs.Prelude.{Option, Some, None, flat_map, option_and_then, if◌then◌else◌}
use Rattle.std.specs.List.{AllByRecursion}
use Rattle.std.proofs.lemmas.Bool.Decides.{nat_tests}
use Rattle.std.proofs.lemmas.List.Concat.{flat_map-cons}
use Rattle.cjc_verified_proof.proofs.BytesNumbers.{number_same}
use Rattle.cjc_verified_proof.proofs.BytesPlain.{same_some}
use Rattle.cjc_verified_proof.specs.CapRead.declared.tree.ClassRef.{ClassRef}
use Rattle.cjc_verified_proof.specs.CapRead.declared.tree.ClassRef.TheVariants.{Inside, Outside}
use Rattle.cjc_verified_proof.specs.Components.Names.{class_ref}
use Rattle.cjc_verified_proof.specs.Components.Package.{Package, world}
use Rattle.cjc_verified_proof.specs.Components.Types.{ref_nibbles, shape_nibbles}
use Rattle.cjc_verified_proof.specs.Script.Sorts.{Booleans, Bytes, Ints, OfClass, OfNumbers, OfReferences, Shape}
use Rattle.cjc_verified_proof.specs.Script.Sorts.{Shorts, shape_named}
use Rattle.cjc_types.specs.Cells.{most_names}
use Rattle.cjc_types.specs.Names.{In}
use Rattle.cjc_accepted_proof.proofs.CheckProofRefs.{class_fits}
use Rattle.cjc_accepted_proof.proofs.TypesLaws.{types_few}
use Rattle.cjc_accepted_proof.specs.CapWrite.Fits.{ClassFits}
use Rattle.cjc_accepted_proof.specs.Coded.{card_type}
use Rattle.cjc_accepted_proof.specs.Frames.{AreFew, is_there, nibbles_there}
use Rattle.cjc_theorem.specs.CheckProof.Limits.Premises.{IsLimited}

-- ---- lists of digits

-- what is made of the numbers below one
unfoldable made_below : (f : ℕ → List ℕ) → ℕ → List (List ℕ)
made_below f zero = []
made_below f (suc n) = f n ∷ made_below f n

made_long : (f : ℕ → List ℕ) (n : ℕ) → length (made_below f n) ≡ n
unfolding made_below
made_long f zero = refl
made_long f (suc n) = ap suc (made_long f n)

made_there : (f : ℕ → List ℕ) (n k : ℕ) → k < n → In (f k) (made_below f n)
unfolding made_below
made_there f zero k lt = absurd (omega (arith, lt))
made_there f (suc n) k lt = by (n == k) refl (λ less. made_there f n k less)
  where
    by : (b : Bool) → (n == k) ≡ b → (k < n → In (f k) (made_below f n)) → In (f k) (f n ∷ made_below f n)
    by true e rest = inl (ap f (number_same n k e))
    by false e rest = inr (rest (grind (arith, nat_tests, lt, e)))

-- a list with each digit of four bits before it
abbrev with_digit : List ℕ → List (List ℕ)
with_digit l = made_below (λ d. d ∷ l) 16

-- the lists of so many digits of four bits
unfoldable digit_lists : ℕ → List (List ℕ)
digit_lists zero = [] ∷ []
digit_lists (suc n) = flat_map with_digit (digit_lists n)

in_front : (xs ys : List (List ℕ)) (x : List ℕ) → In x xs → In x (xs ++ ys)
in_front [] ys x i = absurd i
in_front (y ∷ xs) ys x (inl same) = inl same
in_front (y ∷ xs) ys x (inr i) = inr (in_front xs ys x i)

in_back : (xs ys : List (List ℕ)) (x : List ℕ) → In x ys → In x (xs ++ ys)
in_back [] ys x i = i
in_back (y ∷ xs) ys x i = inr (in_back xs ys x i)

in_flat : (f : List ℕ → List (List ℕ)) (xs : List (List ℕ)) (x y : List ℕ) → In x xs → In y (f x)
    → In y (flat_map f xs)
in_flat f [] x y i j = absurd i
in_flat f (z ∷ xs) x y (inl same) j = subst (In y) (sym (flat_map-cons f z xs)) (in_front (f z) (flat_map f xs) y
    (subst (λ v. In y (f v)) (sym same) j))
in_flat f (z ∷ xs) x y (inr i) j = subst (In y) (sym (flat_map-cons f z xs)) (in_back (f z) (flat_map f xs) y
    (in_flat f xs x y i j))

flat_long : (xs : List (List ℕ)) → length (flat_map with_digit xs) ≡ 16 * length xs
flat_long [] = refl
flat_long (x ∷ xs) =
    let rest = flat_long xs in
    let one = made_long (λ d. d ∷ x) 16 in
    ap length (flat_map-cons with_digit x xs) ∙ length-append (with_digit x) (flat_map with_digit xs)
    ∙ ap (λ n. n + length (flat_map with_digit xs)) one ∙ ap (λ n. 16 + n) rest
    ∙ (let sum : 16 + 16 * length xs ≡ 16 * suc (length xs) = omega arith in sum)

next_long : (n k : ℕ) → length (digit_lists n) ≡ k → length (digit_lists (suc n)) ≡ 16 * k
unfolding digit_lists
next_long n k e = flat_long (digit_lists n) ∙ ap (λ z. 16 * z) e

no_digits : length (digit_lists 0) ≡ 1
unfolding digit_lists
no_digits = refl

one_digit : length (digit_lists 1) ≡ 16
one_digit = next_long 0 1 no_digits

five_digits : length (digit_lists 5) ≡ 1048576
five_digits = next_long 4 65536 (next_long 3 4096 (next_long 2 256 (next_long 1 16 one_digit)))

-- a list of digits is one of those
among_digits : (l : List ℕ) → AllByRecursion (λ (d : ℕ). d < 16) l → In l (digit_lists (length l))
unfolding digit_lists
among_digits [] all = inl refl
among_digits (d ∷ l) all = in_flat with_digit (digit_lists (length l)) l (d ∷ l) (among_digits l all.1)
    (made_there (λ k. k ∷ l) 16 d all.0)

-- ---- types

ref_digits : (r : ClassRef) → ClassFits r → AllByRecursion (λ (d : ℕ). d < 16) (ref_nibbles r)
ref_digits (Inside offset) fits = (omega arith, (omega arith, (omega arith, (omega arith, tt))))
ref_digits (Outside import class) fits = let low = fits.1 in (
  omega arith,
  (
    omega arith,
    (
      omega (arith, low),
      (
        omega
            (arith, low),
        tt,
      ),
    ),
  ),
)

ref_long : (r : ClassRef) → length (ref_nibbles r) ≡ 4
ref_long (Inside offset) = refl
ref_long (Outside import class) = refl

module _ (p : Package) (limited : IsLimited p) where
  abbrev all_types : List (List ℕ)
  all_types = digit_lists 5 ++ digit_lists 1

  types_short : length all_types ≤ most_names
  unfolding most_names
  types_short =
      let five = five_digits in
      let one = one_digit in
      let both = length-append (digit_lists 5) (digit_lists 1) in
      omega (arith, five, one, both)

  of_ref : (first : ℕ) → first < 16 → (c : List ℕ) → In (first ∷ ref_nibbles (class_ref p c)) all_types
  of_ref first lt c =
      let r = class_ref p c in
      in_front (digit_lists 5) (digit_lists 1) (first ∷ ref_nibbles r) (subst (λ n. In (first ∷ ref_nibbles r)
      (digit_lists (suc n))) (ref_long r) (among_digits (first ∷ ref_nibbles r) (
        lt,
        ref_digits r (class_fits p limited
            c),
      )))

  of_numbers : (nibble : ℕ) → nibble < 16 → In (nibble ∷ []) all_types
  of_numbers nibble lt = in_back (digit_lists 5) (digit_lists 1) (nibble ∷ []) (among_digits (nibble ∷ []) (lt, tt))

  of_shape : (s : Shape (List ℕ)) → In (shape_nibbles (class_ref p) s) all_types
  of_shape (OfClass c) = of_ref 6 (omega arith) c
  of_shape (OfReferences c) = of_ref 14 (omega arith) c
  of_shape (OfNumbers Booleans) = of_numbers 10 (omega arith)
  of_shape (OfNumbers Bytes) = of_numbers 11 (omega arith)
  of_shape (OfNumbers Shorts) = of_numbers 12 (omega arith)
  of_shape (OfNumbers Ints) = of_numbers 13 (omega arith)

  of_name : (name t : List ℕ) → card_type p name ≡ Some t → In t all_types
  of_name name t e = by (shape_named name) e
    where
      at : (s : Shape (List ℕ)) (b : Bool) → (if b then Some (shape_nibbles (class_ref p) s) else None) ≡ Some t
          → In t all_types
      at s true f = subst (λ x. In x all_types) (same_some f) (of_shape s)
      at s false f = absurd cc

      by : (o : Option (Shape (List ℕ))) → option_and_then (nibbles_there (world p) (class_ref p)) o ≡ Some t
          → In t all_types
      by None f = absurd cc
      by (Some s) f = at s (is_there (world p) s) f

  pub few_types : AreFew (card_type p)
  few_types = types_few (card_type p) all_types types_short of_name
