-- The name of a package in a list is one of a class.
use Rattle.std.proofs.Common.{◌≡◌, ℕ, refl, sym, ap, subst, ◌∙◌, Bool, true, false, List, [], ◌∷◌, cond}
use Rattle.std.specs.Prelude.{◌&&◌, ◌==◌, if◌then◌else◌}
use Rattle.std.specs.List.{list_all, slice_split, onto_first}
use Rattle.std.proofs.lemmas.Bool.{eqb-true}
use Rattle.cjc_bytes.specs.Descriptor.{IsClassName, inside, last, more, simple}
use Rattle.cjc_bytes.proofs.Bools.{both_front, both_back}
use Rattle.cjc_bytes.specs.Descriptor as descriptor
use Rattle.cjc_token_proof.specs.List.Grammar.{is_name, is_name_byte, is_name_part}

-- a byte of such a name is one of names
byte_is : (b : ℕ) → is_name_byte b ≡ true → descriptor.is_name_byte b ≡ true
byte_is b e = by (b == 46) (b == 59) (b == 91) (b == 47) refl refl refl refl
  where
    other : (c : ℕ) → (b == c) ≡ true → is_name_byte c ≡ false → ⊥
    other c same f = let is : true ≡ false = sym e ∙ ap is_name_byte (eqb-true b c same) ∙ f in cc

    by : (x y z t : Bool) → (b == 46) ≡ x → (b == 59) ≡ y → (b == 91) ≡ z → (b == 47) ≡ t
        → (if x then false else if y then false else if z then false else if t then false else true) ≡ true
    by true y z t p q r s = absurd (other 46 p refl)
    by false true z t p q r s = absurd (other 59 q refl)
    by false false true t p q r s = absurd (other 91 r refl)
    by false false false true p q r s = absurd (other 47 s refl)
    by false false false false p q r s = refl

with_front : (b : ℕ) (name : List ℕ) → descriptor.is_name_byte b ≡ true → IsClassName name → IsClassName (b ∷ name)
with_front b name e (simple n) = simple (more e n)
with_front b _ e (inside n rest) = inside (more e n) rest

abbrev split : List ℕ → List (List ℕ)
split name = slice_split (λ b. b == 47) name

-- the first part has a byte
first_byte : (b : ℕ) (parts : List (List ℕ)) → list_all is_name_part (onto_first b parts) ≡ true → is_name_byte b ≡ true
first_byte b [] e = both_front (is_name_byte b) true (both_front (is_name_part (b ∷ [])) true e)
first_byte b (q ∷ qs) e = both_front (is_name_byte b) (list_all is_name_byte q) (both_front (is_name_part (b ∷ q))
    (list_all is_name_part qs) e)

-- and more of it is a name too
first_rest : (b c : ℕ) (parts : List (List ℕ)) → list_all is_name_part (onto_first b (onto_first c parts)) ≡ true
    → list_all is_name_part (onto_first c parts) ≡ true
first_rest b c [] e =
    let one : (is_name_byte b && (is_name_byte c && true)) ≡ true = both_front (is_name_part (b ∷ c ∷ [])) true e in
    ap (λ x. x && true) (both_back (is_name_byte b) (is_name_byte c && true) one)
first_rest b c (q ∷ qs) e =
    let one : (is_name_byte b && (is_name_byte c && list_all is_name_byte q)) ≡ true =
    both_front (is_name_part (b ∷ c ∷ q)) (list_all is_name_part qs) e in
    ap (λ x. x && list_all is_name_part qs) (both_back (is_name_byte b) (is_name_byte c && list_all is_name_byte q) one)
    ∙ both_back (is_name_part (b ∷ c ∷ q)) (list_all is_name_part qs) e

name_of : (name : List ℕ) → list_all is_name_part (split name) ≡ true → IsClassName name
name_of [] e = absurd cc
name_of (b ∷ []) e = by (b == 47) e
  where
    by : (x : Bool) → list_all is_name_part (cond x ([] ∷ [] ∷ []) (onto_first b ([] ∷ []))) ≡ true
        → IsClassName (b ∷ [])
    by true e = absurd cc
    by false e = simple (last (byte_is b (first_byte b ([] ∷ []) e)))
name_of (b ∷ c ∷ name) e = by (b == 47) (c == 47) refl e (name_of (c ∷ name)) (name_of name)
  where
    by : (x y : Bool) → (c == 47) ≡ y
        → list_all is_name_part (cond x ([] ∷ cond y ([] ∷ split name) (onto_first c (split name)))
        (onto_first b (cond y ([] ∷ split name) (onto_first c (split name))))) ≡ true
        → (list_all is_name_part (split (c ∷ name)) ≡ true → IsClassName (c ∷ name))
        → (list_all is_name_part (split name) ≡ true → IsClassName name) → IsClassName (b ∷ c ∷ name)
    by true y f e one two = absurd cc
    by false true f e one two =
        let slash : c ≡ 47 = eqb-true c 47 f in
        let whole : IsClassName (b ∷ 47 ∷ name) =
        inside {front = b ∷ []} (last (byte_is b (first_byte b ([] ∷ split name) e)))
        (two (both_back (is_name_part (b ∷ [])) (list_all is_name_part (split name)) e)) in
        subst (λ d. IsClassName (b ∷ d ∷ name)) (sym slash) whole
    by false false f e one two =
        with_front b (c ∷ name) (byte_is b (first_byte b (onto_first c (split name)) e))
        (one (ap (λ y. list_all is_name_part (cond y ([] ∷ split name) (onto_first c (split name)))) f
        ∙ first_rest b c (split name) e))

pub class_name : (name : List ℕ) → is_name name ≡ true → IsClassName name
unfolding is_name
class_name name e = name_of name e
