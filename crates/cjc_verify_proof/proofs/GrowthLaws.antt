-- Words, locals and what arrays hold stay what they are while the heap grows or an array changes.
use Rattle.std.proofs.Common.{◌≡◌, inl, inr, ℕ, zero, suc, Bool, true, List, [], ◌∷◌, ◌++◌}
use Rattle.std.proofs.Common.{slice_get, slice_set, Option, Some, None, refl, sym, ap, subst, ◌∙◌}
use Rattle.std.proofs.lemmas.List.Elements.{All-weaker, All-replicate, All-set}
use Rattle.std.specs.Prelude.{replicate, pos}
use Rattle.cjc_script.specs.declared.value.Value.{Value}
use Rattle.cjc_script.specs.declared.value.Value.TheVariants.{Num, Null, Obj}
use Rattle.cjc_script.specs.Sorts.{Element, Booleans, Bytes, Shorts, Ints, Shape, OfClass}
use Rattle.cjc_types.specs.declared.cell.Cell.{Cell}
use Rattle.cjc_types.specs.declared.cell.Cell.TheVariants.{Number, Refs, Unusable}
use Rattle.cjc_card_semantics.specs.Bytecode.Numbers.{is_word}
use Rattle.cjc_card_semantics.specs.Bytecode.Effects.{HeapObject, Numbers, References, Object, shape, Memory}
use Rattle.cjc_card_semantics.specs.Machine.Loaded.{Loaded}
use Rattle.cjc_card_semantics.specs.Machine.Classes.{Class, Field, is_of}
use Rattle.cjc_card_acts.specs.CardTypes.{shape_by}
use Rattle.cjc_verify_proof.specs.Words.{IsWord, IsLocal, AreWords, AreLocals}
use Rattle.cjc_verify_proof.specs.Heaps.{thing_is, object_is, AreItems, IsFit, AreFit, Keeps, shape_in}
use Rattle.cjc_verify_proof.specs.Growth.{Extends, AreZeros, AreNulls}
use Rattle.cjc_verify_proof.specs.References.{IsItem, HoldsItems, AreHeld, PutsReference}
use Rattle.cjc_script.proofs.BytesGets.{in_front, set_same, set_other}
use Rattle.cjc_script.proofs.BytesNumbers.{same_place}

-- ---- words and locals

module _ (is more : (type : List ℕ) → (object : ℕ) → Bool)
    (still : (type : List ℕ) (k : ℕ) → is type k ≡ true → more type k ≡ true) where
  pub word_stays : (c : Cell) (v : Value) → IsWord is c v → IsWord more c v
  word_stays Number (Num z) w = tt
  word_stays Number Null w = absurd w
  word_stays Number (Obj k) w = absurd w
  word_stays Unusable v w = tt
  word_stays (Refs types) (Num z) w = absurd w
  word_stays (Refs types) Null w = tt
  word_stays (Refs types) (Obj k) w = record { type = w.type; among = w.among; holds = still w.type k w.holds }

  local_stays : (c : Cell) (o : Option Value) → IsLocal is c o → IsLocal more c o
  local_stays c (Some v) w = word_stays c v w
  local_stays Number None w = absurd w
  local_stays (Refs types) None w = absurd w
  local_stays Unusable None w = tt

  -- words stay words
  pub words_stay : (cs : List Cell) (vs : List Value) → AreWords is cs vs → AreWords more cs vs
  words_stay [] [] w = tt
  words_stay [] (v ∷ vs) w = absurd w
  words_stay (c ∷ cs) [] w = absurd w
  words_stay (c ∷ cs) (v ∷ vs) w = (word_stays c v w.0, words_stay cs vs w.1)

  -- locals stay locals
  pub locals_stay : (cs : List Cell) (os : List (Option Value)) → AreLocals is cs os → AreLocals more cs os
  locals_stay [] [] w = tt
  locals_stay [] (o ∷ os) w = absurd w
  locals_stay (c ∷ cs) [] w = absurd w
  locals_stay (c ∷ cs) (o ∷ os) w = (local_stays c o w.0, locals_stay cs os w.1)

-- ---- the heap

pub extends_itself : (heap : List (HeapObject Class Field)) → Extends heap heap
extends_itself heap k kind e = e

pub extends_through : (a b c : List (HeapObject Class Field)) → Extends a b → Extends b c → Extends a c
extends_through a b c f g k kind e = g k kind (f k kind e)

-- a heap that keeps its shapes extends
pub keeps_extends : (heap after : List (HeapObject Class Field)) → Keeps heap after → Extends heap after
keeps_extends heap after same k kind e = sym (same k) ∙ e

-- one thing more
pub pushed_extends : (heap : List (HeapObject Class Field)) (thing : HeapObject Class Field)
    → Extends heap (heap ++ thing ∷ [])
pushed_extends heap thing k kind e = go (slice_get heap k) refl e
  where
    go : (o : Option (HeapObject Class Field)) → slice_get heap k ≡ o → shape_in o ≡ Some kind
        → shape_in (slice_get (heap ++ thing ∷ []) k) ≡ Some kind
    go None is f = cc
    go (Some x) is f = ap shape_in (in_front heap (thing ∷ []) k x is) ∙ f

-- another thing of the same shape at a place
pub set_extends : (heap : List (HeapObject Class Field)) (k : ℕ) (old new : HeapObject Class Field)
    → slice_get heap k ≡ Some old → shape old ≡ shape new → Extends heap (slice_set heap k new)
set_extends heap k old new at same j kind e = elim (same_place k j) [
  | inl here ↦ (
      let found : slice_get (slice_set heap k new) j ≡ Some new =
      subst (λ i. slice_get (slice_set heap k new) i ≡ Some new) here (set_same heap k new old at) in
      let was : slice_get heap j ≡ Some old = subst (λ i. slice_get heap i ≡ Some old) here at in
      ap shape_in found ∙ ap (λ s. Some s) (sym same) ∙ sym (ap shape_in was) ∙ e
      )
  | inr other ↦ ap shape_in (set_other heap k j new other) ∙ e
]

module _ (l : Loaded) where
  -- what is of a type, by its shape
  thing_stays : (a b : Option (HeapObject Class Field))
      → ((kind : Shape Class) → shape_in a ≡ Some kind → shape_in b ≡ Some kind)
      → (s : Option (Shape Class)) → thing_is l a s ≡ true → thing_is l b s ≡ true
  thing_stays None b same (Some s) e = cc
  thing_stays None b same None e = cc
  thing_stays (Some x) b same None e = cc
  thing_stays (Some x) b same (Some s) e = go b (same (shape x) refl)
    where
      go : (o : Option (HeapObject Class Field)) → shape_in o ≡ Some (shape x) → thing_is l o (Some s) ≡ true
      go None f = cc
      go (Some y) f = (let kept : shape y ≡ shape x = cc in subst (λ t. is_of l t s ≡ true) (sym kept) e)

  module _ (heap after : List (HeapObject Class Field)) (more : Extends heap after) where
    pub thing_still : (k : ℕ) (s : Option (Shape Class)) → thing_is l (slice_get heap k) s ≡ true
        → thing_is l (slice_get after k) s ≡ true
    thing_still k s e = thing_stays (slice_get heap k) (slice_get after k) (more k) s e

    -- what is of a type stays of it
    pub object_still : (type : List ℕ) (k : ℕ) → object_is l heap type k ≡ true → object_is l after type k ≡ true
    object_still type k e = thing_still k (shape_by l type) e

    pub item_stays : (class : Class) (v : Value) → IsItem l heap class v → IsItem l after class v
    item_stays class (Num z) i = absurd i
    item_stays class Null i = tt
    item_stays class (Obj k) i = thing_still k (Some (OfClass class)) i

    pub holding_stays : (thing : HeapObject Class Field) → HoldsItems l heap thing → HoldsItems l after thing
    holding_stays (Numbers element items) h = tt
    holding_stays (References class items) h = All-weaker (IsItem l heap class) (IsItem l after class)
        (item_stays class)
        items h
    holding_stays (Object class slots) h = tt

-- ---- what holds of each thing of a heap

module _ (P : HeapObject Class Field → Type 0) (heap : List (HeapObject Class Field))
    (each : (k : ℕ) (thing : HeapObject Class Field) → slice_get heap k ≡ Some thing → P thing)
    (new : HeapObject Class Field) (is : P new) where
  -- with one more that has it
  pub each_pushed : (k : ℕ) (thing : HeapObject Class Field) → slice_get (heap ++ new ∷ []) k ≡ Some thing → P thing
  each_pushed k thing e = go heap k e each
    where
      go : (xs : List (HeapObject Class Field)) (k : ℕ) → slice_get (xs ++ new ∷ []) k ≡ Some thing
          → ((k : ℕ) (thing : HeapObject Class Field) → slice_get xs k ≡ Some thing → P thing) → P thing
      go [] zero e all = (let same : new ≡ thing = cc in subst P same is)
      go [] (suc k) e all = cc
      go (x ∷ xs) zero e all = all zero thing e
      go (x ∷ xs) (suc k) e all = go xs k e (λ j t f. all (suc j) t f)

  -- with one that has it in the place of another
  pub each_set : (k : ℕ) (old : HeapObject Class Field) → slice_get heap k ≡ Some old → (j : ℕ)
      (thing : HeapObject Class Field) → slice_get (slice_set heap k new) j ≡ Some thing → P thing
  each_set k old at j thing e = elim (same_place k j) [
    | inl here ↦ (
        let found : slice_get (slice_set heap k new) j ≡ Some new =
        subst (λ i. slice_get (slice_set heap k new) i ≡ Some new) here (set_same heap k new old at) in
        let same : new ≡ thing = cc in
        subst P same is
        )
    | inr other ↦ each j thing (sym (set_other heap k j new other) ∙ e)
  ]

-- ---- arrays of a heap

module _ (l : Loaded) (heap : List (HeapObject Class Field)) (new : HeapObject Class Field) where
  -- arrays of numbers with one thing more
  pub fit_pushed : AreFit heap → IsFit new → AreFit (heap ++ new ∷ [])
  fit_pushed fit is = each_pushed IsFit heap fit new is

  -- arrays of references with one thing more
  pub held_pushed : AreHeld l heap → HoldsItems l (heap ++ new ∷ []) new → AreHeld l (heap ++ new ∷ [])
  held_pushed held is = each_pushed (HoldsItems l (heap ++ new ∷ [])) heap
      (λ k thing e. holding_stays l heap (heap ++ new ∷ []) (pushed_extends heap new) thing (held k thing e)) new is

  module _ (k : ℕ) (old : HeapObject Class Field) (at : slice_get heap k ≡ Some old) where
    -- arrays of numbers with another in the place of one
    pub fit_set : AreFit heap → IsFit new → AreFit (slice_set heap k new)
    fit_set fit is = each_set IsFit heap fit new is k old at

    -- arrays of references with another in the place of one of its shape
    pub held_set : shape old ≡ shape new → AreHeld l heap → HoldsItems l (slice_set heap k new) new
        → AreHeld l (slice_set heap k new)
    held_set same held is = each_set (HoldsItems l (slice_set heap k new)) heap
        (λ j thing e. holding_stays l heap (slice_set heap k new) (set_extends heap k old new at same) thing (held j
        thing e)) new is k old at

-- ---- new arrays

pub zeros_fit : (element : Element) (n : ℕ) → AreItems element (replicate n (pos 0))
zeros_fit Booleans n = All-replicate (λ z. is_word z ≡ true) n (pos 0) refl
zeros_fit Bytes n = All-replicate (λ z. is_word z ≡ true) n (pos 0) refl
zeros_fit Shorts n = All-replicate (λ z. is_word z ≡ true) n (pos 0) refl
zeros_fit Ints n = tt

pub zeros_pushed : (l : Loaded) (heap : List (HeapObject Class Field)) (element : Element)
    (thing : HeapObject Class Field) → AreZeros element thing → AreFit heap → AreHeld l heap
    → AreFit (heap ++ thing ∷ []) × AreHeld l (heap ++ thing ∷ [])
zeros_pushed l heap element thing z fit held = (
  fit_pushed l heap thing fit (subst IsFit (sym z.1) (zeros_fit element z.0)),
  held_pushed l heap thing held (subst (HoldsItems l (heap ++ thing ∷ [])) (sym z.1) tt),
)

pub nulls_pushed : (l : Loaded) (heap : List (HeapObject Class Field)) (class : Class) (thing : HeapObject Class Field)
    → AreNulls class thing → AreFit heap → AreHeld l heap
    → AreFit (heap ++ thing ∷ []) × AreHeld l (heap ++ thing ∷ [])
nulls_pushed l heap class thing z fit held = (
  fit_pushed l heap thing fit (subst IsFit (sym z.1) tt),
  held_pushed l heap thing held (subst (HoldsItems l (heap ++ thing ∷ [])) (sym z.1)
      (All-replicate (IsItem l (heap ++ thing ∷ []) class) z.0 Null tt)),
)

-- ---- another element

pub reference_put : {X : Type 0} (l : Loaded) (m after : Memory Class Field X) → PutsReference l m after
    → (Extends m.heap after.heap × ((AreFit m.heap → AreFit after.heap) × (AreHeld l m.heap → AreHeld l after.heap)))
reference_put l m after p =
    subst (λ a. Extends m.heap a.heap × ((AreFit m.heap → AreFit a.heap) × (AreHeld l m.heap → AreHeld l a.heap)))
    (sym p.is) (
      more,
      (
        (λ fit. fit_set l m.heap new p.array old p.there fit tt),
        (λ held. held_set l m.heap new p.array old p.there refl held (All-set (IsItem l set p.class) p.items p.index
            p.value (item_stays l m.heap set more p.class p.value p.fits)
            (All-weaker (IsItem l m.heap p.class) (IsItem l set p.class) (item_stays l m.heap set more p.class) p.items
            (held p.array old p.there)))),
      ),
    )
  where
    old : HeapObject Class Field
    old = References p.class p.items

    new : HeapObject Class Field
    new = References p.class (slice_set p.items p.index p.value)

    set : List (HeapObject Class Field)
    set = slice_set m.heap p.array new

    more : Extends m.heap set
    more = set_extends m.heap p.array old new p.there refl
