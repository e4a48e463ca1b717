-- The names of types are those that descriptors spell.
use Rattle.std.proofs.Common.{◌≡◌, ◌+◌, ◌-◌, ℕ, Bool, true, false, List, [], ◌∷◌, ◌++◌, length, take, Option, Some}
use Rattle.std.proofs.Common.{None, refl, sym, ap, subst, ◌∙◌, arith}
use Rattle.std.specs.Prelude.{if◌then◌else◌, ◌==◌, option_and_then, unwrap_or}
use Rattle.cjc_bytes.specs.Descriptor.{Part, Parts, plain, base_kind, IsName, IsClassName, IsType, base}
use Rattle.cjc_bytes.specs.Descriptor.{object, array, IsDescriptor, field, method}
use Rattle.cjc_bytes.specs.Descriptor as spelling
use Rattle.cjc_bytes.specs.Spots.{part_of, desc_of}
use Rattle.cjc_bytes.specs.declared.descriptor.Kind.{Kind as PartKind}
use Rattle.cjc_bytes.specs.declared.descriptor.Kind.TheVariants as part_kinds
use Rattle.cjc_bytes.proofs.DescriptorTypes.{desc_spelt, desc_read}
use Rattle.cjc_bytes.proofs.Gets.{all_but_last}
use Rattle.cjc_bytes.proofs.Numbers.{first_byte}
use Rattle.cjc_script.specs.Sorts.{Shape, OfClass, OfNumbers, OfReferences, Element, Booleans, Bytes, Shorts, Ints}
use Rattle.cjc_script.specs.Sorts.{array_name, shape_name, shape_named, array_of, array_by}
use Rattle.cjc_world.specs.Subtype.{starts, inner}
use Rattle.cjc_types.specs.Types.{held, held_by}

-- ---- the name of a class

-- what its bytes say
pub record IsReadAsClass (name : List ℕ) : Type 0 where
  pub class : shape_named name ≡ Some (OfClass name)
  pub array : shape_named (shape_name (OfReferences name)) ≡ Some (OfReferences name)
  pub no_array : starts 91 name ≡ false

-- it begins with a byte that begins no array
record BeginsAsName (name : List ℕ) : Type 0 where
  byte : ℕ
  more : List ℕ
  is : name ≡ byte ∷ more
  no_array : (byte == 91) ≡ false

name_begins : (name : List ℕ) → IsName name → BeginsAsName name
name_begins _ (spelling.last {b = b} e) = record { byte = b; more = []; is = refl; no_array = first_byte b e }
name_begins _ (spelling.more {b = b} {name = name} e h) = record {
  byte = b;
  more = name;
  is = refl;
  no_array = first_byte b e;
}

class_begins : (name : List ℕ) → IsClassName name → BeginsAsName name
class_begins name (spelling.simple h) = name_begins name h
class_begins _ (spelling.inside {front = front} {back = back} h more) =
    let first = name_begins front h in
    record {
      byte = first.byte;
      more = first.more ++ 47 ∷ back;
      is = ap (λ f. f ++ 47 ∷ back) first.is;
      no_array = first.no_array;
    }

array_of_name : (name : List ℕ) → BeginsAsName name → array_of part_kinds.Ref name ≡ Some (OfReferences name)
array_of_name name h = subst (λ n. array_of part_kinds.Ref n ≡ Some (OfReferences n)) (sym h.is) (ap (λ b. if b
    then None else Some (OfReferences (h.byte ∷ h.more))) h.no_array)

pub class_read : (name : List ℕ) → IsClassName name → IsReadAsClass name
class_read name spelt =
    let h = class_begins name spelt in
    let bytes = 91 ∷ 76 ∷ name ++ 59 ∷ [] in
    let described = desc_read (record {
      is_method = false;
      params = [];
      result = record {
        kind = part_kinds.Ref;
        class = bytes;
      };
    }) bytes (field (array (object spelt))) in
    record {
      class = subst (λ n. shape_named n ≡ Some (OfClass n)) (sym h.is) (ap (λ b. if b
          then option_and_then (λ d. array_by (part_of h.more)) (desc_of (h.byte ∷ h.more))
          else Some (OfClass (h.byte ∷ h.more))) h.no_array);
      array = ap (option_and_then (λ d. array_by (part_of (76 ∷ name ++ 59 ∷ [])))) described
          ∙ ap (array_of part_kinds.Ref) (all_but_last name) ∙ array_of_name name h;
      no_array = subst (λ n. starts 91 n ≡ false) (sym h.is) h.no_array;
    }

-- ---- arrays

-- by the letter of its elements
letter_is : (b : ℕ) (kind : PartKind) (shape : Shape (List ℕ)) → base_kind b ≡ Some kind → array_of kind [] ≡ Some shape
    → shape_name shape ≡ 91 ∷ b ∷ []
letter_is b kind shape e f = go (b == 66) (b == 67) (b == 68) (b == 70) (b == 73) (b == 74) (b == 83) (b == 90) refl
    refl refl refl e
  where
    is : {k : PartKind} → Some k ≡ Some kind → array_of k [] ≡ Some shape
    is same = (let s : kind ≡ _ = sym (some_is same) in ap (λ k. array_of k []) (sym s) ∙ f)
      where
        some_is : {k : PartKind} → Some k ≡ Some kind → k ≡ kind
        some_is same = cc

    named : (element : Element) (c : ℕ) → array_name element ≡ 91 ∷ c ∷ [] → (b == c) ≡ true → Some (OfNumbers element)
        ≡ Some shape → shape_name shape ≡ 91 ∷ b ∷ []
    named element c spelt same as_shape =
        let s : OfNumbers element ≡ shape = cc in
        let letter : b ≡ c = grind (arith, same) in
        ap shape_name (sym s) ∙ spelt ∙ ap (λ c. 91 ∷ c ∷ []) (sym letter)

    go : (x1 x2 x3 x4 x5 x6 x7 x8 : Bool) → (b == 66) ≡ x1 → (b == 73) ≡ x5 → (b == 83) ≡ x7 → (b == 90) ≡ x8
        → (if x1 then Some part_kinds.Byte else if x2 then Some part_kinds.Other else if x3 then Some part_kinds.Other
        else if x4 then Some part_kinds.Other else if x5 then Some part_kinds.Int else if x6
        then Some part_kinds.Other else if x7 then Some part_kinds.Short else if x8 then Some part_kinds.Bool
        else None) ≡ Some kind
        → shape_name shape ≡ 91 ∷ b ∷ []
    go true x2 x3 x4 x5 x6 x7 x8 p q r s e = named Bytes 66 refl p (is e)
    go false true x3 x4 x5 x6 x7 x8 p q r s e = let no : None ≡ Some shape = is e in cc
    go false false true x4 x5 x6 x7 x8 p q r s e = let no : None ≡ Some shape = is e in cc
    go false false false true x5 x6 x7 x8 p q r s e = let no : None ≡ Some shape = is e in cc
    go false false false false true x6 x7 x8 p q r s e = named Ints 73 refl q (is e)
    go false false false false false true x7 x8 p q r s e = let no : None ≡ Some shape = is e in cc
    go false false false false false false true x8 p q r s e = named Shorts 83 refl r (is e)
    go false false false false false false false true p q r s e = named Booleans 90 refl s (is e)
    go false false false false false false false false p q r s e = cc

-- what bytes say behind [
record SaysArray (bs : List ℕ) (shape : Shape (List ℕ)) : Type 0 where
  spells : shape_name shape ≡ 91 ∷ bs
  holds : (item : List ℕ) → held_by bs ≡ Some item → IsClassName item

no_letter : (b : ℕ) (kind : PartKind) → base_kind b ≡ Some kind → ((b == 91) ≡ false) × ((b == 76) ≡ false)
no_letter b kind e = (off 91 refl (b == 91) refl, off 76 refl (b == 76) refl)
  where
    off : (c : ℕ) → base_kind c ≡ None → (x : Bool) → (b == c) ≡ x → (b == c) ≡ false
    off c none true is = (let same : b ≡ c = grind (arith, is) in let no : None ≡ Some kind = sym none
        ∙ ap base_kind (sym same) ∙ e in cc)
    off c none false is = is

element_says : (shape : Shape (List ℕ)) {p : Part} (bytes : List ℕ) → IsType p bytes → array_by (part_of bytes)
    ≡ Some shape → SaysArray bytes shape
element_says shape _ (base {b = b} {kind = kind} e) f =
    let off = no_letter b kind e in
    record {
      spells = letter_is b kind shape e (sym (ap (λ k. array_of (unwrap_or k part_kinds.Void) []) e)
          ∙ plainly (b == 91) (b == 76) off.0 off.1 f);
      holds = λ item h. nothing (b == 91) (b == 76) off.0 off.1 item h;
    }
  where
    none_left : List ℕ
    none_left = []

    plainly : (x y : Bool) → x ≡ false → y ≡ false → array_by (if x then record {
      kind = part_kinds.Ref;
      class = b ∷ [];
    } else if y then record { kind = part_kinds.Ref; class = take (length none_left - 1) none_left }
        else plain (unwrap_or (base_kind b) part_kinds.Void)) ≡ Some shape
        → array_of (unwrap_or (base_kind b) part_kinds.Void) [] ≡ Some shape
    plainly true y p q h = cc
    plainly false true p q h = cc
    plainly false false p q h = h

    nothing : (x y : Bool) → x ≡ false → y ≡ false → (item : List ℕ) → (if x then Some (b ∷ []) else if y
        then Some (inner (b ∷ [])) else None) ≡ Some item → IsClassName item
    nothing true y p q item h = cc
    nothing false true p q item h = cc
    nothing false false p q item h = cc
element_says shape _ (object {name = name} spelt) f =
    let is = sym (array_of_name name (class_begins name spelt)) ∙ ap (array_of part_kinds.Ref) (sym (all_but_last name))
    ∙ f in
    record {
      spells = ap shape_name (sym (same_shape is));
      holds = λ item h. subst IsClassName (sym (all_but_last name) ∙ same_item h) spelt;
    }
  where
    same_shape : Some (OfReferences name) ≡ Some shape → OfReferences name ≡ shape
    same_shape e = cc

    same_item : {x y : List ℕ} → Some x ≡ Some y → x ≡ y
    same_item e = cc
element_says shape _ (array {bytes = bytes} t) f = let no_shape : None ≡ Some shape = f in cc

first_same : {x y : ℕ} {xs ys : List ℕ} → x ∷ xs ≡ y ∷ ys → x ≡ y
first_same e = cc

rest_same : {x y : ℕ} {xs ys : List ℕ} → x ∷ xs ≡ y ∷ ys → xs ≡ ys
rest_same e = cc

array_says : (d : Parts) (bs : List ℕ) (shape : Shape (List ℕ)) → desc_of (91 ∷ bs) ≡ Some d → array_by (part_of bs)
    ≡ Some shape → SaysArray bs shape
array_says d bs shape e f = of_descriptor (91 ∷ bs) (desc_spelt d (91 ∷ bs) e) refl
  where
    of_type : {p : Part} (bytes : List ℕ) → IsType p bytes → bytes ≡ 91 ∷ bs → SaysArray bs shape
    of_type _ (base {b = b} {kind = kind} e) same = (let h : b ≡ 91 = first_same same in let no : None
        ≡ Some kind = ap base_kind (sym h) ∙ e in cc)
    of_type _ (object {name = name} h) same = (let clash : 76 ≡ 91 = first_same same in absurd (omega (arith, clash)))
    of_type _ (array {bytes = bytes} t) same = (let h : bytes ≡ bs = rest_same same
        in subst (λ x. SaysArray x shape) h (element_says shape bytes t (ap (λ x. array_by (part_of x)) h ∙ f)))

    of_descriptor : {d : Parts} (bytes : List ℕ) → IsDescriptor d bytes → bytes ≡ 91 ∷ bs → SaysArray bs shape
    of_descriptor bytes (field t) same = of_type bytes t same
    of_descriptor _ (method ps r) same = (let clash : 40 ≡ 91 = first_same same in absurd (omega (arith, clash)))

by_descriptor : (bs : List ℕ) (shape : Shape (List ℕ)) (o : Option Parts) → desc_of (91 ∷ bs) ≡ o
    → option_and_then (λ d. array_by (part_of bs)) o ≡ Some shape → SaysArray bs shape
by_descriptor bs shape None e f = cc
by_descriptor bs shape (Some d) e f = array_says d bs shape e f

-- A type is named by its own name.
pub shape_spelt : (name : List ℕ) (shape : Shape (List ℕ)) → shape_named name ≡ Some shape → shape_name shape ≡ name
shape_spelt [] shape e = cc
shape_spelt (b ∷ bs) shape e = go (b == 91) refl e
  where
    go : (x : Bool) → (b == 91) ≡ x → (if x then option_and_then (λ d. array_by (part_of bs)) (desc_of (b ∷ bs))
        else Some (OfClass (b ∷ bs))) ≡ Some shape → shape_name shape ≡ b ∷ bs
    go false is e = (let same : OfClass (b ∷ bs) ≡ shape = cc in ap shape_name (sym same))
    go true is e =
        let letter : b ≡ 91 = grind (arith, is) in
        let says = by_descriptor bs shape (desc_of (91 ∷ bs)) refl
        (ap (λ c. option_and_then (λ d. array_by (part_of bs)) (desc_of (c ∷ bs))) (sym letter) ∙ e) in
        says.spells ∙ ap (λ c. c ∷ bs) (sym letter)

-- An array of references holds a class of such a name.
pub held_spelt : (name item : List ℕ) (shape : Shape (List ℕ)) → shape_named name ≡ Some shape → held name ≡ Some item
    → IsClassName item
held_spelt [] item shape e h = cc
held_spelt (b ∷ bs) item shape e h = go (b == 91) refl e h
  where
    go : (x : Bool) → (b == 91) ≡ x → (if x then option_and_then (λ d. array_by (part_of bs)) (desc_of (b ∷ bs))
        else Some (OfClass (b ∷ bs))) ≡ Some shape → (if x then held_by bs else None) ≡ Some item → IsClassName item
    go false is e h = cc
    go true is e h =
        let letter : b ≡ 91 = grind (arith, is) in
        let says = by_descriptor bs shape (desc_of (91 ∷ bs)) refl
        (ap (λ c. option_and_then (λ d. array_by (part_of bs)) (desc_of (c ∷ bs))) (sym letter) ∙ e) in
        says.holds item h
