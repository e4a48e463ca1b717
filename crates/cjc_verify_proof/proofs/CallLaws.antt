-- What a call takes off the stack are its arguments, and what an imported method gives are words of its result.
use Rattle.std.proofs.Common.{◌≡◌, ◌≤◌, inl, ℕ, Bool, true, false, not, List, [], ◌∷◌, ◌++◌}
use Rattle.std.proofs.Common.{length, map, take, reverse, slice_get, Option, Some, None, refl, sym, ap, subst, ◌∙◌}
use Rattle.std.proofs.Common.{arith}
use Rattle.std.specs.Prelude.{flat_map}
use Rattle.std.proofs.lemmas.Bool.{or_parts}
use Rattle.std.proofs.lemmas.List.{reverse-append}
use Rattle.cjc_script.specs.declared.value.Value.{Value}
use Rattle.cjc_script.specs.declared.value.Value.TheVariants.{Num, Null, Obj}
use Rattle.cjc_script.specs.Sorts.{Sort, Boolean, Byte, Short, Int, Reference, Shape}
use Rattle.cjc_script.specs.Sorts.{result_fits}
use Rattle.cjc_types.specs.declared.cell.Cell.{Cell}
use Rattle.cjc_types.specs.declared.cell.Cell.TheVariants.{Number, Refs, Unusable}
use Rattle.cjc_card_semantics.specs.Bytecode.Numbers.{spelt_by}
use Rattle.cjc_card_semantics.specs.Bytecode.Effects.{HeapObject}
use Rattle.cjc_card_semantics.specs.Bytecode.Arguments.{values_of, first_and, event_values, result_words}
use Rattle.cjc_card_semantics.specs.Bytecode.Machine.{shape_of, thing_fits, object_fits}
use Rattle.cjc_card_semantics.specs.Machine.Loaded.{Loaded}
use Rattle.cjc_card_semantics.specs.Machine.Classes.{Class, Field}
use Rattle.cjc_card_semantics.specs.Machine.ByToken.{by_token}
use Rattle.cjc_frames.specs.declared.acts.Need.{Need}
use Rattle.cjc_frames.specs.declared.acts.Need.TheVariants.{AnyWord, NumberWord, ReferenceWord, OfType}
use Rattle.cjc_frames.specs.declared.acts.Need.TheVariants.{OfArrays}
use Rattle.cjc_frames.specs.Acts.{meets, has_wrong}
use Rattle.cjc_card_acts.specs.CardTypes.{ValueType, needs_of, needs_of_all, is_type_of, shape_by}
use Rattle.cjc_card_acts.specs.CardTypes as types
use Rattle.cjc_verify_proof.specs.Words.{IsOneOf, IsWord, AreWords}
use Rattle.cjc_verify_proof.specs.Heaps.{thing_is, object_is}
use Rattle.cjc_verify_proof.specs.Control.{cells_of}
use Rattle.cjc_verify_proof.specs.Calls.{receiver_needs, has_receiver, receiver_cells, argument_cells, AreSorts}
use Rattle.cjc_verify_proof.specs.Calls.{IsResult}
use Rattle.cjc_verify_proof.proofs.WordLaws.{true_of, number_is, words_append}
use Rattle.cjc_verify_proof.proofs.TypeLaws.{word_of_type}
use Rattle.cjc_script.proofs.BytesLists.{map_append}

-- ---- what meets a need

-- the cell of a word that meets a need
abbrev needed : Need → Cell
needed AnyWord = Unusable
needed NumberWord = Number
needed ReferenceWord = Unusable
needed (OfType type) = Refs (type ∷ [])
needed (OfArrays nibbles) = Unusable

module _ (l : Loaded) (heap : List (HeapObject Class Field)) where
  abbrev Is : (type : List ℕ) → (object : ℕ) → Bool
  Is = object_is l heap

  needed_word : (n : Need) (c : Cell) (v : Value) → meets (is_type_of l) n c ≡ true → IsWord Is c v
      → IsWord Is (needed n) v
  needed_word AnyWord c v e w = tt
  needed_word NumberWord c v e w = subst (λ d. IsWord Is d v) (number_is c e) w
  needed_word ReferenceWord c v e w = tt
  needed_word (OfType type) c v e w = word_of_type l heap type c v e w
  needed_word (OfArrays nibbles) c v e w = tt

  needed_words : (needs : List Need) (cs : List Cell) (vs : List Value) → AreWords Is cs vs
      → has_wrong (is_type_of l) needs cs ≡ false → length needs ≤ length cs
      → AreWords Is (map needed needs) (take (length needs) vs)
  needed_words [] cs vs w h o = tt
  needed_words (n ∷ needs) [] vs w h o = absurd (omega (arith, o))
  needed_words (n ∷ needs) (c ∷ cs) [] w h o = absurd w
  needed_words (n ∷ needs) (c ∷ cs) (v ∷ vs) w h o =
      let k = or_parts (not (meets (is_type_of l) n c)) (has_wrong (is_type_of l) needs cs) h in (
        needed_word n c v (true_of (meets (is_type_of l) n c) k.0) w.0,
        needed_words needs cs vs w.1 k.1 (omega (arith, o)),
      )

  reversed_words : (cs : List Cell) (vs : List Value) → AreWords Is cs vs → AreWords Is (reverse cs) (reverse vs)
  reversed_words [] [] w = tt
  reversed_words [] (v ∷ vs) w = absurd w
  reversed_words (c ∷ cs) [] w = absurd w
  reversed_words (c ∷ cs) (v ∷ vs) w =
      subst (λ ds. AreWords Is ds (reverse (v ∷ vs))) (sym (reverse-append (c ∷ []) cs))
      (subst (λ us. AreWords Is (reverse cs ++ c ∷ []) us) (sym (reverse-append (v ∷ []) vs))
      (words_append Is (reverse cs) (c ∷ []) (reverse vs) (v ∷ []) (reversed_words cs vs w.1) (w.0, tt)))

-- ---- arguments

one_argument : (t : ValueType) → reverse (map needed (needs_of t)) ≡ cells_of t
one_argument types.Void = refl
one_argument types.Boolean = refl
one_argument types.Byte = refl
one_argument types.Short = refl
one_argument types.Int = refl
one_argument (types.Reference type) = refl

all_arguments : (params : List ValueType) → reverse (map needed (needs_of_all params)) ≡ flat_map cells_of params
all_arguments [] = refl
all_arguments (t ∷ params) =
    ap reverse (map_append needed (needs_of_all params) (needs_of t))
    ∙ reverse-append (map needed (needs_of_all params)) (map needed (needs_of t))
    ∙ ap (λ cs. cs ++ reverse (map needed (needs_of_all params))) (one_argument t)
    ∙ ap (λ cs. cells_of t ++ cs) (all_arguments params)

receiver_argument : (r : Option (List ℕ)) → reverse (map needed (receiver_needs r)) ≡ receiver_cells r
receiver_argument None = refl
receiver_argument (Some type) = refl

with_receiver : (r : Option (List ℕ)) (params : List ValueType)
    → reverse (map needed (needs_of_all params ++ receiver_needs r)) ≡ argument_cells r params
with_receiver r params =
    ap reverse (map_append needed (needs_of_all params) (receiver_needs r))
    ∙ reverse-append (map needed (needs_of_all params)) (map needed (receiver_needs r))
    ∙ ap (λ cs. cs ++ reverse (map needed (needs_of_all params))) (receiver_argument r)
    ∙ ap (λ cs. receiver_cells r ++ cs) (all_arguments params)

-- what a call takes are its arguments, the deepest first
pub takes_arguments : (l : Loaded) (heap : List (HeapObject Class Field)) (receiver : Option (List ℕ))
    (params : List ValueType) (cs : List Cell) (vs : List Value) → AreWords (object_is l heap) cs vs
    → has_wrong (is_type_of l) (needs_of_all params ++ receiver_needs receiver) cs ≡ false
    → length (needs_of_all params ++ receiver_needs receiver) ≤ length cs
    → AreWords (object_is l heap) (argument_cells receiver params) (reverse (take (length (needs_of_all params
    ++ receiver_needs receiver)) vs))
takes_arguments l heap receiver params cs vs w h o =
    let needs = needs_of_all params ++ receiver_needs receiver in
    subst (λ ds. AreWords (object_is l heap) ds (reverse (take (length needs) vs))) (with_receiver receiver params)
    (reversed_words l heap (map needed needs) (take (length needs) vs) (needed_words l heap needs cs vs w h o))

-- ---- events

-- values that are there
pub record AreValues (o : Option (List Value)) : Type 0 where
  pub values : List Value
  pub is : o ≡ Some values

one_more_value : (v : Value) (o : Option (List Value)) → AreValues o → AreValues (first_and v o)
one_more_value v o h = record { values = v ∷ h.values; is = ap (first_and v) h.is }

module _ (l : Loaded) (heap : List (HeapObject Class Field)) where
  -- the values of words of their types
  pub event_has : (sorts : List Sort) (params : List ValueType) → AreSorts l sorts params → (vs : List Value)
      → AreWords (object_is l heap) (flat_map cells_of params) vs → AreValues (values_of sorts vs)
  event_has [] [] s [] w = record { values = []; is = refl }
  event_has [] [] s (v ∷ vs) w = absurd w
  event_has [] (t ∷ params) s vs w = absurd s
  event_has (k ∷ sorts) [] s vs w = absurd s
  event_has (Boolean ∷ sorts) (types.Boolean ∷ params) s (Num z ∷ vs) w = one_more_value (Num z) (values_of sorts vs)
      (event_has sorts params s.1 vs w.1)
  event_has (Boolean ∷ sorts) (types.Boolean ∷ params) s [] w = absurd w
  event_has (Boolean ∷ sorts) (types.Boolean ∷ params) s (Null ∷ vs) w = absurd w.0
  event_has (Boolean ∷ sorts) (types.Boolean ∷ params) s (Obj j ∷ vs) w = absurd w.0
  event_has (Byte ∷ sorts) (types.Byte ∷ params) s (Num z ∷ vs) w = one_more_value (Num z) (values_of sorts vs)
      (event_has sorts params s.1 vs w.1)
  event_has (Byte ∷ sorts) (types.Byte ∷ params) s [] w = absurd w
  event_has (Byte ∷ sorts) (types.Byte ∷ params) s (Null ∷ vs) w = absurd w.0
  event_has (Byte ∷ sorts) (types.Byte ∷ params) s (Obj j ∷ vs) w = absurd w.0
  event_has (Short ∷ sorts) (types.Short ∷ params) s (Num z ∷ vs) w = one_more_value (Num z) (values_of sorts vs)
      (event_has sorts params s.1 vs w.1)
  event_has (Short ∷ sorts) (types.Short ∷ params) s [] w = absurd w
  event_has (Short ∷ sorts) (types.Short ∷ params) s (Null ∷ vs) w = absurd w.0
  event_has (Short ∷ sorts) (types.Short ∷ params) s (Obj j ∷ vs) w = absurd w.0
  event_has (Int ∷ sorts) (types.Int ∷ params) s (Num high ∷ Num low ∷ vs) w = one_more_value
      (Num (spelt_by high low)) (values_of sorts vs) (event_has sorts params s.1 vs w.1.1)
  event_has (Int ∷ sorts) (types.Int ∷ params) s [] w = absurd w
  event_has (Int ∷ sorts) (types.Int ∷ params) s (Null ∷ vs) w = absurd w.0
  event_has (Int ∷ sorts) (types.Int ∷ params) s (Obj j ∷ vs) w = absurd w.0
  event_has (Int ∷ sorts) (types.Int ∷ params) s (Num high ∷ []) w = absurd w.1
  event_has (Int ∷ sorts) (types.Int ∷ params) s (Num high ∷ Null ∷ vs) w = absurd w.1.0
  event_has (Int ∷ sorts) (types.Int ∷ params) s (Num high ∷ Obj j ∷ vs) w = absurd w.1.0
  event_has (Reference shape ∷ sorts) (types.Reference type ∷ params) s (Null ∷ vs) w = one_more_value Null
      (values_of sorts vs) (event_has sorts params s.1 vs w.1)
  event_has (Reference shape ∷ sorts) (types.Reference type ∷ params) s (Obj j ∷ vs) w = one_more_value (Obj j)
      (values_of sorts vs) (event_has sorts params s.1 vs w.1)
  event_has (Reference shape ∷ sorts) (types.Reference type ∷ params) s [] w = absurd w
  event_has (Reference shape ∷ sorts) (types.Reference type ∷ params) s (Num z ∷ vs) w = absurd w.0
  event_has (k ∷ sorts) (t ∷ params) s vs w = absurd s.0

  -- the same behind a receiver
  pub event_has_on : (receiver : Option (List ℕ)) (on_object : Bool) → on_object ≡ has_receiver receiver
      → (sorts : List Sort) (params : List ValueType) → AreSorts l sorts params → (vs : List Value)
      → AreWords (object_is l heap) (argument_cells receiver params) vs
      → AreValues (event_values on_object sorts vs)
  event_has_on None on e sorts params s vs w = subst (λ b. AreValues (event_values b sorts vs)) (sym e)
      (event_has sorts params s vs w)
  event_has_on (Some type) on e sorts params s [] w = absurd w
  event_has_on (Some type) on e sorts params s (v ∷ vs) w = subst (λ b. AreValues (event_values b sorts (v ∷ vs)))
      (sym e) (one_more_value v (values_of sorts vs) (event_has sorts params s vs w.1))

  -- ---- results

  pub object_result : (shape : Shape (List ℕ)) (type : List ℕ) → shape_of (by_token l) shape ≡ shape_by l type → (k : ℕ)
      → object_fits (by_token l) heap k shape ≡ true → IsOneOf (object_is l heap) (type ∷ []) k
  unfolding by_token
  object_result shape type same k e = record {
    type = type;
    among = inl refl;
    holds = subst (λ s. thing_is l (slice_get heap k) s ≡ true) same (told (slice_get heap k) (shape_of (by_token l)
        shape) e);
  }
    where
      told : (o : Option (HeapObject Class Field)) (s : Option (Shape Class)) → thing_fits (by_token l) o s ≡ true
          → thing_is l o s ≡ true
      told (Some thing) (Some kind) e = e
      told (Some thing) None e = cc
      told None (Some kind) e = cc
      told None None e = cc

  -- the words of a result that fits
  pub result_has : (result : Option Sort) (t : ValueType) → IsResult l result t → (v : Option Value)
      → result_fits (object_fits (by_token l) heap) result v ≡ true
      → AreWords (object_is l heap) (cells_of t) (reverse (result_words result v))
  result_has None types.Void r None e = tt
  result_has None types.Void r (Some v) e = cc
  result_has None types.Boolean r v e = absurd r
  result_has None types.Byte r v e = absurd r
  result_has None types.Short r v e = absurd r
  result_has None types.Int r v e = absurd r
  result_has None (types.Reference type) r v e = absurd r
  result_has (Some k) t r None e = cc
  result_has (Some Boolean) types.Boolean r (Some (Num z)) e = (tt, tt)
  result_has (Some Boolean) types.Boolean r (Some Null) e = cc
  result_has (Some Boolean) types.Boolean r (Some (Obj j)) e = cc
  result_has (Some Byte) types.Byte r (Some (Num z)) e = (tt, tt)
  result_has (Some Byte) types.Byte r (Some Null) e = cc
  result_has (Some Byte) types.Byte r (Some (Obj j)) e = cc
  result_has (Some Short) types.Short r (Some (Num z)) e = (tt, tt)
  result_has (Some Short) types.Short r (Some Null) e = cc
  result_has (Some Short) types.Short r (Some (Obj j)) e = cc
  result_has (Some Int) types.Int r (Some (Num z)) e = (tt, (tt, tt))
  result_has (Some Int) types.Int r (Some Null) e = cc
  result_has (Some Int) types.Int r (Some (Obj j)) e = cc
  result_has (Some (Reference shape)) (types.Reference type) r (Some Null) e = (tt, tt)
  result_has (Some (Reference shape)) (types.Reference type) r (Some (Obj j)) e = (object_result shape type r j e, tt)
  result_has (Some (Reference shape)) (types.Reference type) r (Some (Num z)) e = cc
  result_has (Some k) t r (Some v) e = absurd r
