-- One type is of another, and that of a third; words that meet a type are of it.
use Rattle.std.proofs.Common.{◌≡◌, ◌||◌, inl, inr, ℕ, true, false, List, [], ◌∷◌, Option, Some, None, refl, sym}
use Rattle.std.proofs.Common.{subst, slice_get}
use Rattle.std.specs.Prelude.{option_to_list}
use Rattle.std.specs.List.{list_any}
use Rattle.cjc_script.specs.declared.value.Value.{Value}
use Rattle.cjc_script.specs.declared.value.Value.TheVariants.{Num, Null, Obj}
use Rattle.cjc_script.specs.Sorts.{Element, Booleans, Bytes, Shorts, Ints, Shape, OfClass, OfNumbers}
use Rattle.cjc_script.specs.Sorts.{OfReferences}
use Rattle.cjc_types.specs.declared.cell.Cell.{Cell}
use Rattle.cjc_types.specs.declared.cell.Cell.TheVariants.{Number, Refs, Unusable}
use Rattle.cjc_types.specs.Rules.{all_types}
use Rattle.cjc_card_semantics.specs.Bytecode.Effects.{HeapObject, shape}
use Rattle.cjc_card_semantics.specs.Machine.Loaded.{Loaded}
use Rattle.cjc_card_semantics.specs.Machine.Classes.{Class, Field, same_element, is_kind_of, is_object, object_class}
use Rattle.cjc_card_semantics.specs.Machine.Classes.{is_of}
use Rattle.cjc_card_acts.specs.CardTypes.{shape_by, both_of, is_type_of}
use Rattle.cjc_verify_proof.specs.Words.{IsOneOf, IsWord}
use Rattle.cjc_verify_proof.specs.Heaps.{thing_is, object_is}
use Rattle.cjc_card_semantics.proofs.MachineLaws.Upwards.{kind_itself, kind_through}
use Rattle.cjc_verify_proof.proofs.HeapLaws.{passes_in}
use Rattle.cjc_script.proofs.BytesBools.{or_cases}

-- ---- types

element_through : (a b c : Element) → same_element a b ≡ true → same_element b c ≡ true → same_element a c ≡ true
element_through Booleans Booleans c e f = f
element_through Bytes Bytes c e f = f
element_through Shorts Shorts c e f = f
element_through Ints Ints c e f = f
element_through Booleans Bytes c e f = cc
element_through Booleans Shorts c e f = cc
element_through Booleans Ints c e f = cc
element_through Bytes Booleans c e f = cc
element_through Bytes Shorts c e f = cc
element_through Bytes Ints c e f = cc
element_through Shorts Booleans c e f = cc
element_through Shorts Bytes c e f = cc
element_through Shorts Ints c e f = cc
element_through Ints Booleans c e f = cc
element_through Ints Bytes c e f = cc
element_through Ints Shorts c e f = cc

pub element_itself : (a : Element) → same_element a a ≡ true
element_itself Booleans = refl
element_itself Bytes = refl
element_itself Shorts = refl
element_itself Ints = refl

module _ (l : Loaded) where
  object_through : (d e : Class) → is_object l d ≡ true → is_kind_of l d e ≡ true → is_object l e ≡ true
  object_through d e h k = go (object_class l) h
    where
      go : (o : Option Class) → list_any (λ c. is_kind_of l c d) (option_to_list o) ≡ true
          → list_any (λ c. is_kind_of l c e) (option_to_list o) ≡ true
      go None h = cc
      go (Some c) h = elim (or_cases (is_kind_of l c d) false h) [
        | inl is ↦ subst (λ b. (b || false) ≡ true) (sym (kind_through l c d e is k)) refl
        | inr never ↦ cc
      ]

  -- a type is of itself
  pub of_itself : (a : Shape Class) → is_of l a a ≡ true
  of_itself (OfClass c) = kind_itself l c
  of_itself (OfNumbers e) = element_itself e
  of_itself (OfReferences c) = kind_itself l c

  -- a type of a type is of each type of which that is
  pub of_through : (a b c : Shape Class) → is_of l a b ≡ true → is_of l b c ≡ true → is_of l a c ≡ true
  of_through (OfClass x) (OfClass y) (OfClass z) e f = kind_through l x y z e f
  of_through (OfClass x) (OfClass y) (OfNumbers c) e f = cc
  of_through (OfClass x) (OfClass y) (OfReferences z) e f = cc
  of_through (OfClass x) (OfNumbers b) c e f = cc
  of_through (OfClass x) (OfReferences y) c e f = cc
  of_through (OfNumbers a) (OfNumbers b) (OfNumbers c) e f = element_through a b c e f
  of_through (OfNumbers a) (OfNumbers b) (OfClass z) e f = f
  of_through (OfNumbers a) (OfNumbers b) (OfReferences z) e f = cc
  of_through (OfNumbers a) (OfClass y) (OfClass z) e f = object_through y z e f
  of_through (OfNumbers a) (OfClass y) (OfNumbers c) e f = cc
  of_through (OfNumbers a) (OfClass y) (OfReferences z) e f = cc
  of_through (OfNumbers a) (OfReferences y) c e f = cc
  of_through (OfReferences x) (OfReferences y) (OfReferences z) e f = kind_through l x y z e f
  of_through (OfReferences x) (OfReferences y) (OfClass z) e f = f
  of_through (OfReferences x) (OfReferences y) (OfNumbers c) e f = cc
  of_through (OfReferences x) (OfClass y) (OfClass z) e f = object_through y z e f
  of_through (OfReferences x) (OfClass y) (OfNumbers c) e f = cc
  of_through (OfReferences x) (OfClass y) (OfReferences z) e f = cc
  of_through (OfReferences x) (OfNumbers b) c e f = cc

  -- what is of a type is of each type of which that is
  pub thing_through : (o : Option (HeapObject Class Field)) (a b : Option (Shape Class)) → thing_is l o a ≡ true
      → both_of l a b ≡ true → thing_is l o b ≡ true
  thing_through (Some thing) (Some a) (Some b) e f = of_through (shape thing) a b e f
  thing_through (Some thing) (Some a) None e f = cc
  thing_through (Some thing) None b e f = cc
  thing_through None (Some a) b e f = cc
  thing_through None None b e f = cc

  -- a word all of whose types are of a type is one of that type
  pub word_of_type : (heap : List (HeapObject Class Field)) (type : List ℕ) (c : Cell) (v : Value)
      → all_types (λ t. is_type_of l t type) c ≡ true → IsWord (object_is l heap) c v
      → IsWord (object_is l heap) (Refs (type ∷ [])) v
  word_of_type heap type Number v e w = cc
  word_of_type heap type Unusable v e w = cc
  word_of_type heap type (Refs names) (Num z) e w = absurd w
  word_of_type heap type (Refs names) Null e w = tt
  word_of_type heap type (Refs names) (Obj k) e w = record {
    type = type;
    among = inl refl;
    holds = thing_through (slice_get heap k) (shape_by l w.type) (shape_by l type) w.holds
        (passes_in (λ t. is_type_of l t type) names w.type e w.among);
  }

  -- what is of one of a single type is of it
  pub of_only : (heap : List (HeapObject Class Field)) (type : List ℕ) (k : ℕ) → IsOneOf (object_is l heap) (type ∷ [])
      k → object_is l heap type k ≡ true
  of_only heap type k w = elim w.among [
    | inl same ↦ subst (λ t. object_is l heap t k ≡ true) (sym same) w.holds
    | inr never ↦ absurd never
  ]
