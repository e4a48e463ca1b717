-- A descriptor that names none of the types which a package may not use has types of one word each.
use Rattle.std.proofs.Common.{◌≡◌, ℕ, ◌<◌, ◌^◌, refl, sym, ap, subst, ◌∙◌, Bool, true, false, List, [], ◌∷◌, ◌++◌}
use Rattle.std.proofs.Common.{length}
use Rattle.std.specs.Prelude.{◌&&◌, ◌||◌, ◌==◌, Some, None, option_and_then, if◌then◌else◌}
use Rattle.std.specs.List.{AllByRecursion, list_any}
use Rattle.std.proofs.lemmas.Bool.{eqb-true, lt-ltb}
use Rattle.cjc_bytes.specs.Descriptor.{AreTypes, IsDescriptor, IsResult, IsType, Part, Parts, array, base, base_kind}
use Rattle.cjc_bytes.specs.Descriptor.{field, method, next, none, nothing, object, value}
use Rattle.cjc_bytes.specs.Spots.{desc_of, part_of}
use Rattle.cjc_bytes.specs.declared.descriptor.Kind.{Kind}
use Rattle.cjc_bytes.specs.declared.descriptor.Kind.TheVariants as kinds
use Rattle.cjc_bytes.proofs.DescriptorTypes.{desc_read, desc_spelt}
use Rattle.cjc_bytes.proofs.Bools.{or_left, or_right}
use Rattle.cjc_bytes.proofs.Quantified.{last_false}
use Rattle.cjc_script.specs.Sorts.{Boolean, Byte, Int, NoValue, Reference, Short, Sort, array_by, reference_to}
use Rattle.cjc_script.specs.Sorts.{shape_named, sort_by, sort_of}
use Rattle.cjc_narrow_proof.specs.Selection.Objects.{has_values}
use Rattle.cjc_narrow_proof.specs.Selection.Rows.{is_word_sort}
use Rattle.cjc_vtable.specs.LowerSubset.Types.{is_any_unsupported, is_any_int, is_unsupported_desc}
use Rattle.cjc_vtable.specs.LowerSubset.Types.{is_unsupported_element}
use Rattle.cjc_vtable.specs.LowerSubset.Types.{is_unsupported_name, is_unsupported_part, is_int, is_int_desc}
use Rattle.cjc_vtable.specs.LowerSubset.Types.{is_int_name}
use Rattle.cjc_vtable.specs.LowerSubset.Types.{is_int_part, is_other}
use Rattle.cjc_narrow_proof.specs.Tables.Calls.{IsWordDesc, is_word_result}
use Rattle.cjc_narrow_proof.proofs.TablesLaws.Spelt.{class_read}
use Rattle.cjc_types.specs.Types.{no_parts, parts, parts_or_none}

-- ---- by the letter of a type

-- what holds of the four letters of types that are not unsupported holds of each letter whose kind is not unsupported
pub by_letter : (P : ℕ → Kind → Type 0) → P 66 kinds.Byte → P 73 kinds.Int → P 83 kinds.Short → P 90 kinds.Bool
    → (b : ℕ) (kind : Kind) → base_kind b ≡ Some kind → (is_unsupported_element (b ∷ []) ≡ true → P b kind) → P b kind
by_letter P byte int short bool b kind e unsupported = go (b == 66) (b == 67) (b == 68) (b == 70) (b == 73) (b == 74)
    (b == 83) (b == 90) refl refl refl refl refl refl refl refl e
  where
    is : (c : ℕ) {k : Kind} → (b == c) ≡ true → Some k ≡ Some kind → P c k → P b kind
    is c {k = k} same one h = (let letter : c ≡ b = sym (eqb-true b c same) in let kind_is : k ≡ kind = some_is one
        in subst (λ x. P x kind) letter (subst (P c) kind_is h))
      where
        some_is : Some k ≡ Some kind → k ≡ kind
        some_is same = cc

    other : (c : ℕ) → (b == c) ≡ true → is_unsupported_element (c ∷ []) ≡ true → P b kind
    other c same h = unsupported (ap (λ x. is_unsupported_element (x ∷ [])) (eqb-true b c same) ∙ h)

    go : (x1 x2 x3 x4 x5 x6 x7 x8 : Bool) → (b == 66) ≡ x1 → (b == 67) ≡ x2 → (b == 68) ≡ x3 → (b == 70) ≡ x4
        → (b == 73) ≡ x5 → (b == 74) ≡ x6 → (b == 83) ≡ x7 → (b == 90) ≡ x8
        → (if x1 then Some kinds.Byte else if x2 then Some kinds.Other else if x3 then Some kinds.Other else if x4
        then Some kinds.Other else if x5 then Some kinds.Int else if x6 then Some kinds.Other else if x7
        then Some kinds.Short else if x8 then Some kinds.Bool else None) ≡ Some kind
        → P b kind
    go true x2 x3 x4 x5 x6 x7 x8 p1 p2 p3 p4 p5 p6 p7 p8 e = is 66 p1 e byte
    go false true x3 x4 x5 x6 x7 x8 p1 p2 p3 p4 p5 p6 p7 p8 e = other 67 p2 refl
    go false false true x4 x5 x6 x7 x8 p1 p2 p3 p4 p5 p6 p7 p8 e = other 68 p3 refl
    go false false false true x5 x6 x7 x8 p1 p2 p3 p4 p5 p6 p7 p8 e = other 70 p4 refl
    go false false false false true x6 x7 x8 p1 p2 p3 p4 p5 p6 p7 p8 e = is 73 p5 e int
    go false false false false false true x7 x8 p1 p2 p3 p4 p5 p6 p7 p8 e = other 74 p6 refl
    go false false false false false false true x8 p1 p2 p3 p4 p5 p6 p7 p8 e = is 83 p7 e short
    go false false false false false false false true p1 p2 p3 p4 p5 p6 p7 p8 e = is 90 p8 e bool
    go false false false false false false false false p1 p2 p3 p4 p5 p6 p7 p8 e = cc

-- a letter of an unsupported type has the kind of these
other_kind : (b : ℕ) (kind : Kind) → base_kind b ≡ Some kind → is_unsupported_element (b ∷ []) ≡ true
    → is_other kind ≡ true
other_kind b kind e f = go (b == 91) (b == 67) (b == 68) (b == 70) (b == 74) refl refl refl refl refl f
  where
    at : (c : ℕ) (k : Kind) → base_kind c ≡ Some k → is_other k ≡ true → (b == c) ≡ true → is_other kind ≡ true
    at c k spelt h same = (let one : Some k ≡ Some kind = sym spelt ∙ ap base_kind (sym (eqb-true b c same)) ∙ e
        in let is : k ≡ kind = cc in ap is_other (sym is) ∙ h)

    go : (x1 x2 x3 x4 x5 : Bool) → (b == 91) ≡ x1 → (b == 67) ≡ x2 → (b == 68) ≡ x3 → (b == 70) ≡ x4 → (b == 74) ≡ x5
        → (x1 || x2 || x3 || x4 || x5) ≡ true → is_other kind ≡ true
    go true x2 x3 x4 x5 p1 p2 p3 p4 p5 g = (let no : None ≡ Some kind = ap base_kind (sym (eqb-true b 91 p1)) ∙ e in cc)
    go false true x3 x4 x5 p1 p2 p3 p4 p5 g = at 67 kinds.Other refl refl p2
    go false false true x4 x5 p1 p2 p3 p4 p5 g = at 68 kinds.Other refl refl p3
    go false false false true x5 p1 p2 p3 p4 p5 g = at 70 kinds.Other refl refl p4
    go false false false false true p1 p2 p3 p4 p5 g = at 74 kinds.Other refl refl p5
    go false false false false false p1 p2 p3 p4 p5 g = cc

-- ---- a type

number_word : (b : ℕ) (kind : Kind) → base_kind b ≡ Some kind → is_other kind ≡ false → is_int kind ≡ false
    → is_word_sort (sort_by kind []) ≡ true
number_word b kind e = by_letter (λ c k. is_other k ≡ false → is_int k ≡ false → is_word_sort (sort_by k []) ≡ true)
    (λ f g. refl) (λ f g. absurd cc) (λ f g. refl) (λ f g. refl) b kind e
    (λ unsupported f g. (let clash = sym (other_kind b kind e unsupported) ∙ f in absurd cc))

-- int is no word, but has values
number_value : (b : ℕ) (kind : Kind) → base_kind b ≡ Some kind → is_other kind ≡ false
    → has_values (sort_by kind []) ≡ true
number_value b kind e = by_letter (λ c k. is_other k ≡ false → has_values (sort_by k []) ≡ true) (λ f. refl) (λ f. refl)
    (λ f. refl) (λ f. refl) b kind e (λ unsupported f. (let clash = sym (other_kind b kind e unsupported) ∙ f in absurd
    cc))

word_values : (s : Sort) → is_word_sort s ≡ true → has_values s ≡ true
word_values Boolean e = refl
word_values Byte e = refl
word_values Short e = refl
word_values Int e = refl
word_values (Reference shape) e = refl
word_values NoValue e = e

-- an array by its elements
element_word : {p : Part} (bytes : List ℕ) → IsType p bytes → is_unsupported_element bytes ≡ false
    → is_word_sort (reference_to (shape_named (91 ∷ bytes))) ≡ true
element_word _ (base {b = b} {kind = kind} e) f =
    let described = desc_read _ (91 ∷ b ∷ []) (field (array (base e))) in
    ap (λ o. is_word_sort (reference_to (option_and_then (λ d. array_by (part_of (b ∷ []))) o))) described
    ∙ by_letter (λ c k. is_word_sort (reference_to (array_by (part_of (c ∷ [])))) ≡ true) refl refl refl refl b kind e
    (λ unsupported. (let clash = sym unsupported ∙ f in absurd cc))
element_word _ (object {name = name} spelt) f = ap (λ o. is_word_sort (reference_to o)) (class_read name spelt).array
element_word _ (array t) f = absurd cc

pub type_word : {p : Part} {bytes : List ℕ} → IsType p bytes → is_unsupported_part p ≡ false → is_int_part p ≡ false
    → is_word_sort (sort_of p) ≡ true
type_word (base {b = b} {kind = kind} e) f g = number_word b kind e (or_left (is_other kind) (is_unsupported_name []) f)
    (or_left (is_int kind) (is_int_name []) g)
type_word (object {name = name} spelt) f g = ap (λ o. is_word_sort (reference_to o)) (class_read name spelt).class
type_word (array {bytes = bytes} t) f g = element_word bytes t f

-- 301 of a type, int counted
pub type_values : {p : Part} {bytes : List ℕ} → IsType p bytes → is_unsupported_part p ≡ false → has_values (sort_of p)
    ≡ true
type_values (base {b = b} {kind = kind} e) f = number_value b kind e
    (or_left (is_other kind) (is_unsupported_name []) f)
type_values (object {name = name} spelt) f = ap (λ o. has_values (reference_to o)) (class_read name spelt).class
type_values (array {bytes = bytes} t) f = word_values (reference_to (shape_named (91 ∷ bytes))) (element_word bytes t f)

-- ---- a descriptor

types_word : {ps : List Part} {bytes : List ℕ} → AreTypes ps bytes → (more : List Part)
    → list_any is_unsupported_part (ps ++ more) ≡ false → list_any is_int_part (ps ++ more) ≡ false
    → AllByRecursion (λ p. is_word_sort (sort_of p) ≡ true) ps
types_word none more f g = tt
types_word (next {p = p} {ps = ps} t ts) more f g = (
  type_word t (or_left (is_unsupported_part p) (list_any is_unsupported_part (ps ++ more)) f) (or_left (is_int_part p)
      (list_any is_int_part (ps ++ more)) g),
  types_word ts more (or_right (is_unsupported_part p) (list_any is_unsupported_part (ps ++ more)) f)
      (or_right (is_int_part p) (list_any is_int_part (ps ++ more)) g),
)

word_so : (kind : Kind) (r : Part) → is_word_sort (sort_of r) ≡ true → is_word_result kind (sort_of r) ≡ true
word_so kinds.Void r h = refl
word_so kinds.Bool r h = h
word_so kinds.Byte r h = h
word_so kinds.Short r h = h
word_so kinds.Int r h = h
word_so kinds.Other r h = h
word_so kinds.Ref r h = h

result_word : {r : Part} {bytes : List ℕ} → IsResult r bytes → is_unsupported_part r ≡ false → is_int_part r ≡ false
    → is_word_result r.kind (sort_of r) ≡ true
result_word (value {p = p} t) f g = word_so p.kind p (type_word t f g)
result_word nothing f g = refl

module _ (desc : List ℕ) (d : Parts) (short : length desc < 2 ^ 32) (is : desc_of desc ≡ Some d)
    (is_method : d.is_method ≡ true) (no_unsupported : is_unsupported_desc desc ≡ false) (no_int : is_int_desc desc
    ≡ false) where
  parts_are : parts desc ≡ d
  unfolding parts
  parts_are = ap (λ b. if b then parts_or_none (desc_of desc) else no_parts) (lt-ltb (length desc) (2 ^ 32) short)
      ∙ ap parts_or_none is

  unsupported_parts : is_any_unsupported (Some d) ≡ false
  unfolding is_unsupported_desc
  unsupported_parts = ap is_any_unsupported (sym is) ∙ ap (λ b. b && is_any_unsupported (desc_of desc))
      (sym (lt-ltb (length desc) (2 ^ 32) short)) ∙ no_unsupported

  int_parts : is_any_int (Some d) ≡ false
  unfolding is_int_desc
  int_parts = ap is_any_int (sym is) ∙ ap (λ b. b && is_any_int (desc_of desc))
      (sym (lt-ltb (length desc) (2 ^ 32) short)) ∙ no_int

  -- 301 and 302
  pub word_desc : IsWordDesc desc
  word_desc =
      let both = by (desc_spelt d desc is) is_method unsupported_parts int_parts in
      record {
        is_desc = is ∙ ap Some (sym parts_are);
        is_method = ap (λ (p : Parts). p.is_method) parts_are ∙ is_method;
        params = subst (λ (p : Parts). AllByRecursion (λ q. is_word_sort (sort_of q) ≡ true) p.params) (sym parts_are)
            both.0;
        result = ap (λ (p : Parts). let r = p.result in is_word_result r.kind (sort_of r)) parts_are ∙ both.1;
      }
    where
      by : {d : Parts} {bytes : List ℕ} → IsDescriptor d bytes → d.is_method ≡ true → is_any_unsupported (Some d)
          ≡ false → is_any_int (Some d) ≡ false
          → AllByRecursion (λ p. is_word_sort (sort_of p) ≡ true) d.params
          × ((let r = d.result in is_word_result r.kind (sort_of r)) ≡ true)
      by (field t) m f g = absurd cc
      by (method {ps = ps} {r = r} ts t) m f g = (
        types_word ts (r ∷ []) f g,
        result_word t (last_false is_unsupported_part ps r f) (last_false is_int_part ps r g),
      )
