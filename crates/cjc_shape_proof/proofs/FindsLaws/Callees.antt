-- The method that a call names: it is found, has types of one word, and what it gives is there.
use Rattle.std.proofs.Common.{◌≡◌, ℕ, ◌-◌, ◌<◌, ◌^◌, refl, sym, ap, subst, ◌∙◌, Bool, true, false, List, [], ◌∷◌, ◌++◌}
use Rattle.std.proofs.Common.{length, map}
use Rattle.std.specs.Prelude.{◌&&◌, ◌||◌, ◌==◌, take, Option, Some, None, option_and_then, unwrap_or, if◌then◌else◌}
use Rattle.std.specs.List.{AllByRecursion, list_any}
use Rattle.std.proofs.lemmas.Bool.{lt-ltb}
use Rattle.cjc_bytes.specs.Descriptor.{Part, Parts, base_kind, plain}
use Rattle.cjc_bytes.specs.Spots.{desc_of, part_of}
use Rattle.cjc_bytes.specs.declared.descriptor.Kind.{Kind}
use Rattle.cjc_bytes.proofs.Quantified.{last_false}
use Rattle.cjc_bytes.specs.declared.descriptor.Kind.TheVariants as kinds
use Rattle.cjc_narrow_proof.specs.Script.Sorts.{OfClass, OfReferences, Reference, Shape, array_by, array_of}
use Rattle.cjc_narrow_proof.specs.Script.Sorts.{reference_to}
use Rattle.cjc_narrow_proof.specs.Script.Sorts.{result_by}
use Rattle.cjc_narrow_proof.specs.Script.Sorts.{shape_named, sort_by, sort_of}
use Rattle.cjc_narrow_proof.specs.Tables.Calls.{types_of}
use Rattle.cjc_classes.specs.Types.Types.{parts}
use Rattle.cjc_narrow_proof.proofs.LawsLaws.Handlers.{class_there}
use Rattle.cjc_narrow_proof.specs.Runs.Types.{IsThere, of_class, of_numbers, of_references}
use Rattle.cjc_world.specs.Classes.{Class}
use Rattle.cjc_world.specs.Rules.{is_any_missing, is_desc_missing, is_element_missing, is_missing, is_type_missing}

-- ---- a type of a descriptor is there

same_shape : {a b : Shape (List ℕ)} → Some a ≡ Some b → a ≡ b
same_shape e = cc

references_are : (name : List ℕ) (kind : Shape (List ℕ)) → array_of kinds.Ref name ≡ Some kind
    → OfReferences name ≡ kind
references_are [] kind e = absurd cc
references_are (b ∷ bs) kind e = by (b == 91) e
  where
    by : (x : Bool) → (if x then None else Some (OfReferences (b ∷ bs))) ≡ Some kind → OfReferences (b ∷ bs) ≡ kind
    by true e = absurd cc
    by false e = cc

numbers_are : (w : List Class) (k : Kind) (kind : Shape (List ℕ)) → array_of k [] ≡ Some kind → IsThere w kind
numbers_are w kinds.Bool kind e = subst (IsThere w) (same_shape e) of_numbers
numbers_are w kinds.Byte kind e = subst (IsThere w) (same_shape e) of_numbers
numbers_are w kinds.Short kind e = subst (IsThere w) (same_shape e) of_numbers
numbers_are w kinds.Int kind e = subst (IsThere w) (same_shape e) of_numbers
numbers_are w kinds.Other kind e = absurd cc
numbers_are w kinds.Ref kind e = absurd cc
numbers_are w kinds.Void kind e = absurd cc

-- the elements of an array, where what they name is there
element_is_there : (w : List Class) (bs : List ℕ) (kind : Shape (List ℕ)) → array_by (part_of bs) ≡ Some kind
    → is_element_missing w bs ≡ false → IsThere w kind
unfolding is_element_missing
element_is_there w [] kind e f = absurd cc
element_is_there w (b ∷ bs) kind e f = by (b == 91) (b == 76) refl refl e f
  where
    by : (x y : Bool) → (b == 91) ≡ x → (b == 76) ≡ y
        → array_by (if x then record { kind = kinds.Ref; class = b ∷ bs } else if y then record {
          kind = kinds.Ref;
          class = take (length bs - 1) bs;
        } else plain (unwrap_or (base_kind b) kinds.Void)) ≡ Some kind
        → (if x then is_element_missing w bs else y && is_missing w (take (length bs - 1) bs)) ≡ false → IsThere w kind
    by true y p q e f = let no : None ≡ Some kind = ap (λ v. if v then None else Some (OfReferences (b ∷ bs))) (sym p)
        ∙ e in absurd cc
    by false true p q e f = let c = class_there w (take (length bs - 1) bs) f
        in subst (IsThere w) (references_are (take (length bs - 1) bs) kind e) (of_references c.0 c.1)
    by false false p q e f = numbers_are w (unwrap_or (base_kind b) kinds.Void) kind e

type_is_there : (w : List Class) (name : List ℕ) (kind : Shape (List ℕ)) → shape_named name ≡ Some kind
    → is_type_missing w name ≡ false → IsThere w kind
unfolding is_type_missing
type_is_there w [] kind e f = absurd cc
type_is_there w (b ∷ bs) kind e f = by (b == 91) refl e f
  where
    of_array : (o : Option Parts) → option_and_then (λ d. array_by (part_of bs)) o ≡ Some kind → array_by (part_of bs)
        ≡ Some kind
    of_array None e = absurd cc
    of_array (Some d) e = e

    by : (x : Bool) → (b == 91) ≡ x → (if x then option_and_then (λ d. array_by (part_of bs)) (desc_of (b ∷ bs))
        else Some (OfClass (b ∷ bs))) ≡ Some kind → (if x then is_element_missing w bs else is_missing w (b ∷ bs))
        ≡ false → IsThere w kind
    by true p e f = element_is_there w bs kind (of_array (desc_of (b ∷ bs)) e) f
    by false p e f = let c = class_there w (b ∷ bs) f in subst (IsThere w) (same_shape e) (of_class c.0 c.1)

-- a value of a type whose class is there
sort_is_there : (w : List Class) (p : Part) (kind : Shape (List ℕ)) → sort_of p ≡ Reference kind
    → is_type_missing w p.class ≡ false → IsThere w kind
sort_is_there w p kind e f = by p.kind e
  where
    some_shape : (o : Option (Shape (List ℕ))) → shape_named p.class ≡ o → reference_to o ≡ Reference kind
        → IsThere w kind
    some_shape None g e = absurd cc
    some_shape (Some shape) g e = let same : shape ≡ kind = cc
        in subst (IsThere w) same (type_is_there w p.class shape g f)

    by : (k : Kind) → sort_by k p.class ≡ Reference kind → IsThere w kind
    by kinds.Ref e = some_shape (shape_named p.class) refl e
    by kinds.Bool e = absurd cc
    by kinds.Byte e = absurd cc
    by kinds.Short e = absurd cc
    by kinds.Int e = absurd cc
    by kinds.Other e = absurd cc
    by kinds.Void e = absurd cc

-- ---- the types of a descriptor

any_front : (p : Part → Bool) (xs ys : List Part) → list_any p (xs ++ ys) ≡ false → list_any p xs ≡ false
any_front p [] ys e = refl
any_front p (x ∷ xs) ys e = by (p x) e (any_front p xs ys)
  where
    by : (b : Bool) → (b || list_any p (xs ++ ys)) ≡ false → (list_any p (xs ++ ys) ≡ false → list_any p xs ≡ false)
        → (b || list_any p xs) ≡ false
    by true e rest = absurd cc
    by false e rest = rest e

-- the parts of a descriptor name what is there
pub parts_there : (w : List Class) (desc : List ℕ) → length desc < 2 ^ 32 → desc_of desc ≡ Some (parts desc)
    → is_desc_missing w desc ≡ false → list_any (λ p. is_type_missing w p.class) (let d = parts desc in d.params
    ++ d.result ∷ []) ≡ false
unfolding is_desc_missing
parts_there w desc short is e = sym (ap (λ b. b && is_any_missing w (desc_of desc)) (lt-ltb (length desc) (2 ^ 32)
    short) ∙ ap (is_any_missing w) is) ∙ e

pub result_there : (w : List Class) (desc : List ℕ) → length desc < 2 ^ 32 → desc_of desc ≡ Some (parts desc)
    → is_desc_missing w desc ≡ false → (kind : Shape (List ℕ)) → (let types = types_of desc in types.result)
    ≡ Some (Reference kind) → IsThere w kind
result_there w desc short is e kind r =
    let d = parts desc in
    let fine = last_false (λ p. is_type_missing w p.class) (let d = parts desc in d.params) (let d = parts desc
    in d.result) (parts_there w desc short is e) in
    by (let d = parts desc in let q = d.result in q.kind) refl (let d = parts desc in d.result) refl r fine
  where
    some_sort : (p : Part) → Some (sort_of p) ≡ Some (Reference kind) → sort_of p ≡ Reference kind
    some_sort p e = cc

    by : (k : Kind) → (let d = parts desc in let q = d.result in q.kind) ≡ k → (p : Part)
        → (let d = parts desc in d.result) ≡ p → result_by k p ≡ Some (Reference kind) → is_type_missing w p.class
        ≡ false → IsThere w kind
    by kinds.Void f p g r fine = absurd cc
    by kinds.Bool f p g r fine = sort_is_there w p kind (some_sort p r) fine
    by kinds.Byte f p g r fine = sort_is_there w p kind (some_sort p r) fine
    by kinds.Short f p g r fine = sort_is_there w p kind (some_sort p r) fine
    by kinds.Int f p g r fine = sort_is_there w p kind (some_sort p r) fine
    by kinds.Other f p g r fine = sort_is_there w p kind (some_sort p r) fine
    by kinds.Ref f p g r fine = sort_is_there w p kind (some_sort p r) fine

pub params_there : (w : List Class) (desc : List ℕ) → length desc < 2 ^ 32 → desc_of desc ≡ Some (parts desc)
    → is_desc_missing w desc ≡ false
    → AllByRecursion (λ type. (kind : Shape (List ℕ)) → type ≡ Reference kind
    → IsThere w kind) (let types = types_of desc in types.params)
params_there w desc short is e = go (let d = parts desc in d.params) (any_front (λ p. is_type_missing w p.class)
    (let d = parts desc in d.params) ((let d = parts desc in d.result) ∷ []) (parts_there w desc short is e))
  where
    front : (a b : Bool) → (a || b) ≡ false → a ≡ false
    front true b e = absurd cc
    front false b e = refl

    back : (a b : Bool) → (a || b) ≡ false → b ≡ false
    back true b e = absurd cc
    back false b e = e

    go : (ps : List Part) → list_any (λ p. is_type_missing w p.class) ps ≡ false
        → AllByRecursion (λ type. (kind : Shape (List ℕ)) → type ≡ Reference kind → IsThere w kind) (map sort_of ps)
    go [] e = tt
    go (p ∷ ps) e = (
      λ kind g. sort_is_there w p kind g (front (is_type_missing w p.class)
          (list_any (λ p. is_type_missing w p.class) ps) e),
      go ps (back (is_type_missing w p.class) (list_any (λ p. is_type_missing w p.class) ps) e),
    )
