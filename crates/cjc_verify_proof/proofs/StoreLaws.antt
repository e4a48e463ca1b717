-- What stores into arrays of numbers leave.
use Rattle.std.proofs.Common.{◌≡◌, inl, inr, ℕ, zero, suc, Bool, true, false}
use Rattle.std.proofs.Common.{List, [], ◌∷◌, slice_get, slice_set, Option, Some, None}
use Rattle.std.proofs.Common.{refl, sym, ap, subst, ◌∙◌, arith, ℤ, pos, negsuc}
use Rattle.std.proofs.Common.{◌≤ℤ◌, w8, w16}
use Rattle.std.proofs.lemmas.Int.{ints, SFits-int_wrap}
use Rattle.std.specs.Int.RustNames.{int_le}
use Rattle.std.proofs.lemmas.List.Elements.{All-set}
use Rattle.std.specs.Prelude.{if◌then◌else◌}
use Rattle.std.proofs.lemmas.Bool.{and_from}
use Rattle.cjc_card_semantics.specs.Range.Words.{low_word, low_byte}
use Rattle.cjc_script.specs.declared.value.Value.{Value}
use Rattle.cjc_script.specs.declared.value.Value.TheVariants.{Num, Null, Obj}
use Rattle.cjc_script.specs.Sorts.{Element, Booleans, Bytes, Shorts, Ints}
use Rattle.cjc_types.specs.declared.cell.Cell.{Cell}
use Rattle.cjc_types.specs.declared.cell.Cell.TheVariants.{Number, Refs, Unusable}
use Rattle.cjc_types.specs.Rules.{all_types}
use Rattle.cjc_card_semantics.specs.Bytecode.Numbers.{is_word, spelt_by}
use Rattle.cjc_card_semantics.specs.Bytecode.Calculations.{IndexOutside}
use Rattle.cjc_card_semantics.specs.Bytecode.Effects.{Letter, Reference, Byte, Short, Int, HeapObject, Numbers}
use Rattle.cjc_card_semantics.specs.Bytecode.Effects.{Memory, Go}
use Rattle.cjc_card_semantics.specs.Bytecode.Effects.{Raise, Stick, is_element, item_at, with_some, numbers_in}
use Rattle.cjc_card_semantics.specs.Bytecode.Effects.{with_thing}
use Rattle.cjc_card_semantics.specs.Bytecode.Effects.{shape, Classes, store_number}
use Rattle.cjc_card_semantics.specs.Bytecode.Effects as effects
use Rattle.cjc_card_semantics.specs.Machine.Loaded.{Loaded}
use Rattle.cjc_card_semantics.specs.Machine.Classes.{Class, Field}
use Rattle.cjc_card_semantics.specs.Machine.Statics.{StaticCell}
use Rattle.cjc_frames.specs.Types.{begins_with}
use Rattle.cjc_card_acts.specs.CardTypes.{arrays_of}
use Rattle.cjc_verify_proof.specs.Words.{IsWord, AreWords, AreLocals}
use Rattle.cjc_verify_proof.specs.Heaps.{object_is, AreItems, IsFit, AreFit, Stored, Keeps, shape_in}
use Rattle.cjc_verify_proof.proofs.HeapLaws.{IsNumbers, numbers_of, passes_in}
use Rattle.cjc_script.proofs.BytesGets.{get_set_other}
use Rattle.cjc_script.proofs.BytesNumbers.{same_place}
use Rattle.cjc_script.proofs.BytesIntegers.{le_true}

-- ---- lists with another item

set_same : {A : Type 0} (xs : List A) (k : ℕ) (x y : A) → slice_get xs k ≡ Some x
    → slice_get (slice_set xs k y) k ≡ Some y
set_same [] k x y e = absurd cc
set_same (z ∷ xs) zero x y e = refl
set_same (z ∷ xs) (suc k) x y e = set_same xs k x y e

-- another thing of the same shape at a place
module _ (heap : List (HeapObject Class Field)) (k : ℕ) (old new : HeapObject Class Field) (at : slice_get heap k
    ≡ Some old) where
  keeps_shapes : shape old ≡ shape new → Keeps heap (slice_set heap k new)
  keeps_shapes same j = elim (same_place j k) [
    | inl e ↦ subst (λ i. shape_in (slice_get heap i) ≡ shape_in (slice_get (slice_set heap k new) i)) (sym e)
        (ap shape_in at ∙ ap (λ s. Some s) same ∙ sym (ap shape_in (set_same heap k old new at)))
    | inr h ↦ ap shape_in (sym (get_set_other heap k j new h))
  ]

  keeps_fit : AreFit heap → IsFit new → AreFit (slice_set heap k new)
  keeps_fit fit is j thing e = elim (same_place j k) [
    | inl i ↦ (let found : slice_get (slice_set heap k new) k ≡ Some thing = subst (λ x. slice_get (slice_set heap k
        new)
        x ≡ Some thing) i e in
        let there = set_same heap k old new at in
        let same : new ≡ thing = cc in subst IsFit same is)
    | inr h ↦ fit j thing (sym (get_set_other heap k j new h) ∙ e)
  ]

-- what an array of numbers of the letter may be given
abbrev pub IsGiven : Letter → ℤ → Type 0
IsGiven Reference z = ⊥
IsGiven Byte z = is_word z ≡ true
IsGiven Short z = is_word z ≡ true
IsGiven Int z = Unit {0}

pub items_set : (letter : Letter) (element : Element) (items : List ℤ) (n : ℕ) (z : ℤ) → is_element letter element
    ≡ true
    → IsGiven letter z → AreItems element items → AreItems element (slice_set items n z)
items_set letter Ints items n z is g fit = tt
items_set Byte Booleans items n z is g fit = All-set (λ z. is_word z ≡ true) items n z g fit
items_set Byte Bytes items n z is g fit = All-set (λ z. is_word z ≡ true) items n z g fit
items_set Byte Shorts items n z is g fit = cc
items_set Short Shorts items n z is g fit = All-set (λ z. is_word z ≡ true) items n z g fit
items_set Short Booleans items n z is g fit = cc
items_set Short Bytes items n z is g fit = cc
items_set Int Booleans items n z is g fit = cc
items_set Int Bytes items n z is g fit = cc
items_set Int Shorts items n z is g fit = cc
items_set Reference Booleans items n z is g fit = cc
items_set Reference Bytes items n z is g fit = cc
items_set Reference Shorts items n z is g fit = cc

-- a word is cut to a word
pub within : (z : ℤ) → negsuc 32767 ≤ℤ z → z ≤ℤ pos 32767 → is_word z ≡ true
within z low high = and_from (int_le (negsuc 32767) z) (int_le z (pos 32767)) (le_true (negsuc 32767) z low)
    (le_true z (pos 32767) high)

pub word_is_word : (z : ℤ) → is_word (low_word z) ≡ true
word_is_word z = let f = SFits-int_wrap w16 z in within (low_word z) (omega (arith, ints, f)) (omega (arith, ints, f))

pub byte_is_word : (z : ℤ) → is_word (low_byte z) ≡ true
byte_is_word z = let f = SFits-int_wrap w8 z in within (low_byte z) (omega (arith, ints, f)) (omega (arith, ints, f))

module _ {X : Type 0} (l : Loaded) (next : ℕ) (lc : List Cell) (lv : List (Option Value)) (m : Memory Class Field X)
    (k : AreLocals (object_is l m.heap) lc lv) (fit : AreFit m.heap) (cs : List Cell) (vs : List Value)
    (w : AreWords (object_is l m.heap) cs vs) (letter : Letter) (z : ℤ) (given : IsGiven letter z) where
  abbrev Into : (j : ℕ) (i : ℤ) → Option (HeapObject Class Field) → Type 0
  Into j i o = Stored l next cs lc m (with_some Stick o (numbers_in letter (λ element items. item_at (Raise
      IndexOutside)
      items i (λ n old. Go next vs lv (with_thing m j (Numbers element (slice_set items n z)))))))

  index_stored : (j : ℕ) (i : ℤ) (element : Element) (items : List ℤ) → is_element letter element ≡ true
      → slice_get m.heap j ≡ Some (Numbers element items) → Stored l next cs lc m (item_at (Raise IndexOutside) items i
      (λ n old. Go next vs lv (with_thing m j (Numbers element (slice_set items n z)))))
  index_stored j (negsuc i) element items is at = tt
  index_stored j (pos i) element items is at = go (slice_get items i)
    where
      go : (o : Option ℤ)
          → Stored l next cs lc m (with_some (Raise IndexOutside) o (λ old. Go next vs lv (with_thing m j
          (Numbers element (slice_set items i z)))))
      go None = tt
      go (Some old) =
          let new = Numbers element (slice_set items i z) in (
            refl,
            (
              w,
              (
                k,
                (
                  keeps_fit m.heap j (Numbers element items) new at fit (items_set letter element items i z is
                      given (fit j (Numbers element items) at)),
                  (keeps_shapes m.heap j (Numbers element items) new at refl, refl),
                ),
              ),
            ),
          )

  pub stores : (j : ℕ) (i : ℤ) → IsNumbers letter (slice_get m.heap j) → Into j i (slice_get m.heap j)
  stores j i a = subst (Into j i) (sym a.is) (go (is_element letter a.element) a.fits)
    where
      go : (b : Bool) → b ≡ true → Stored l next cs lc m (if b then item_at (Raise IndexOutside) a.items i
          (λ n old. Go next vs lv (with_thing m j (Numbers a.element (slice_set a.items n z)))) else Stick)
      go true e = index_stored j i a.element a.items a.fits a.is
      go false e = cc

-- a value that is stored lies on top of an index, and that on the array
module _ {X : Type 0} (l : Loaded) (next : ℕ) (lc : List Cell) (lv : List (Option Value)) (m : Memory Class Field X)
    (k : AreLocals (object_is l m.heap) lc lv) (classes : Classes Class Field StaticCell X) (fit : AreFit m.heap)
    (cs : List Cell) (vs : List Value) (w : AreWords (object_is l m.heap) cs vs) where
  stored_by : (letter : Letter) → (letter ≡ Reference → ⊥) → (z i : ℤ) → IsGiven letter z → (c : Cell) (v : Value)
      → all_types (begins_with (arrays_of letter)) c ≡ true → IsWord (object_is l m.heap) c v
      → Stored l next cs lc m (effects.thing_of m.heap v (λ j. numbers_in letter (λ element items. item_at
      (Raise IndexOutside) items i (λ n old. Go next vs lv (with_thing m j (Numbers element (slice_set items n z)))))))
  stored_by letter other z i given Number v b is = cc
  stored_by letter other z i given Unusable v b is = cc
  stored_by letter other z i given (Refs names) (Num y) b is = absurd is
  stored_by letter other z i given (Refs names) Null b is = tt
  stored_by letter other z i given (Refs names) (Obj j) b is =
      stores l next lc lv m k fit cs vs w letter z given j i (numbers_of l letter is.type (slice_get m.heap j) other
      (passes_in (begins_with (arrays_of letter)) names is.type b is.among) is.holds)

  -- bastore
  pub stores_byte : (x i : ℤ) (c : Cell) (v : Value) → all_types (begins_with (arrays_of Byte)) c ≡ true
      → IsWord (object_is l m.heap) c v
      → Stored l next cs lc m (store_number classes Byte next lv m (Num x ∷ Num i ∷ v ∷ vs))
  stores_byte x i c v b is = stored_by Byte (λ e. cc) (low_byte x) i (byte_is_word x) c v b is

  -- sastore
  pub stores_short : (x i : ℤ) (c : Cell) (v : Value) → all_types (begins_with (arrays_of Short)) c ≡ true
      → IsWord (object_is l m.heap) c v
      → Stored l next cs lc m (store_number classes Short next lv m (Num x ∷ Num i ∷ v ∷ vs))
  stores_short x i c v b is = stored_by Short (λ e. cc) (low_word x) i (word_is_word x) c v b is

  -- iastore
  pub stores_int : (low high i : ℤ) (c : Cell) (v : Value) → all_types (begins_with (arrays_of Int)) c ≡ true
      → IsWord (object_is l m.heap) c v
      → Stored l next cs lc m (store_number classes Int next lv m (Num low ∷ Num high ∷ Num i ∷ v ∷ vs))
  stores_int low high i c v b is = stored_by Int (λ e. cc) (spelt_by high low) i tt c v b is
