-- Memory holds what it may behind new arrays and behind stores into arrays.
use Rattle.std.proofs.Common.{◌≡◌, ℕ, Bool, true, false, List, [], ◌∷◌, ◌++◌, slice_get, slice_set, Option, Some}
use Rattle.std.proofs.Common.{None, refl, sym, subst, ℤ, pos, negsuc}
use Rattle.std.specs.Prelude.{if◌then◌else◌}
use Rattle.std.proofs.lemmas.List.Elements.{All-weaker, All-replicate, All-set}
use Rattle.cjc_card_semantics.specs.Range.Words.{low_word, low_byte}
use Rattle.cjc_script.specs.declared.value.Value.{Value}
use Rattle.cjc_script.specs.declared.value.Value.TheVariants.{Num, Null, Obj}
use Rattle.cjc_script.specs.Sorts.{Element}
use Rattle.cjc_types.specs.declared.cell.Cell.{Cell}
use Rattle.cjc_types.specs.declared.cell.Cell.TheVariants.{Number, Refs, Unusable}
use Rattle.cjc_types.specs.Rules.{all_types}
use Rattle.cjc_card_semantics.specs.Bytecode.Numbers.{spelt_by}
use Rattle.cjc_card_semantics.specs.Bytecode.Calculations.{IndexOutside}
use Rattle.cjc_card_semantics.specs.Bytecode.Effects.{Letter, Reference, Byte, Short, Int, HeapObject, Numbers}
use Rattle.cjc_card_semantics.specs.Bytecode.Effects.{References, Memory, Effect, Go, Raise, Toss, Invoke, Leave, Stick}
use Rattle.cjc_card_semantics.specs.Bytecode.Effects.{is_element, item_at, with_some, numbers_in, with_thing, Classes}
use Rattle.cjc_card_semantics.specs.Bytecode.Effects.{shape}
use Rattle.cjc_card_semantics.specs.Bytecode.Effects.{store_number, thing_of}
use Rattle.cjc_card_semantics.specs.Machine.Loaded.{Loaded}
use Rattle.cjc_card_semantics.specs.Machine.Classes.{Class, Field}
use Rattle.cjc_card_semantics.specs.Machine.Operations.{Callee}
use Rattle.cjc_card_semantics.specs.Machine.Statics.{Image, StaticCell}
use Rattle.cjc_frames.specs.Types.{begins_with}
use Rattle.cjc_card_acts.specs.CardTypes.{arrays_of}
use Rattle.cjc_verify_proof.specs.Words.{IsWord, AreWords, AreLocals}
use Rattle.cjc_verify_proof.specs.Heaps.{object_is, IsFit}
use Rattle.cjc_verify_proof.specs.Growth.{Extends, AreZeros, AreNulls, Adds}
use Rattle.cjc_verify_proof.specs.References.{IsItem, HoldsItems, Puts}
use Rattle.cjc_verify_proof.specs.Memories.{FieldTypes, HasSlots, IsMemory, Goes}
use Rattle.cjc_verify_proof.proofs.HeapLaws.{IsNumbers, numbers_of, passes_in}
use Rattle.cjc_verify_proof.proofs.StoreLaws.{IsGiven, items_set, byte_is_word, word_is_word}
use Rattle.cjc_verify_proof.proofs.GrowthLaws.{words_stay, locals_stay, object_still, item_stays, pushed_extends}
use Rattle.cjc_verify_proof.proofs.GrowthLaws.{set_extends, zeros_fit}
use Rattle.cjc_verify_proof.proofs.MemoryLaws.{memory_pushed, memory_set}

-- ---- new arrays

module _ (l : Loaded) (t : FieldTypes) (next : ℕ) (cs lc : List Cell) (m : Memory Class Field (List Image))
    (fit : IsMemory l t m) where
  abbrev Outcome : Type 0
  Outcome = Effect Class Field Callee (List Image)

  -- an array of zeros
  pub zeros_go : (element : Element) (e : Outcome) → Adds l next cs lc m (AreZeros element) e → Goes l t next cs lc m e
  zeros_go element (Go at stack locals memory) h =
      let one = h.1.1.1 in
      let thing = one.0 in
      let what = one.1.0 in
      let is = one.1.1 in
      let all : IsMemory l t (record m { heap = m.heap ++ thing ∷ [] }) = memory_pushed l t m thing fit
      (subst IsFit (sym what.1) (zeros_fit element what.0))
      (subst (HoldsItems l (m.heap ++ thing ∷ [])) (sym what.1) tt) (subst (HasSlots l t m.heap) (sym what.1) tt) in (
        h.0,
        (
          h.1.0,
          (
            h.1.1.0,
            (
              subst (IsMemory l t) (sym is) all,
              subst (λ (x : Memory Class Field (List Image)). Extends m.heap x.heap) (sym is) (pushed_extends m.heap
                  thing),
            ),
          ),
        ),
      )
  zeros_go element (Raise fault) h = tt
  zeros_go element (Toss object) h = absurd h
  zeros_go element (Invoke method) h = absurd h
  zeros_go element (Leave words) h = absurd h
  zeros_go element Stick h = absurd h

  -- an array of nulls
  pub nulls_go : (class : Class) (e : Outcome) → Adds l next cs lc m (AreNulls class) e → Goes l t next cs lc m e
  nulls_go class (Go at stack locals memory) h =
      let one = h.1.1.1 in
      let thing = one.0 in
      let what = one.1.0 in
      let is = one.1.1 in
      let all : IsMemory l t (record m { heap = m.heap ++ thing ∷ [] }) = memory_pushed l t m thing fit
      (subst IsFit (sym what.1) tt)
      (subst (HoldsItems l (m.heap ++ thing ∷ [])) (sym what.1) (All-replicate (IsItem l (m.heap ++ thing ∷ []) class)
      what.0 Null tt)) (subst (HasSlots l t m.heap) (sym what.1) tt) in (
        h.0,
        (
          h.1.0,
          (
            h.1.1.0,
            (
              subst (IsMemory l t) (sym is) all,
              subst (λ (x : Memory Class Field (List Image)). Extends m.heap x.heap) (sym is) (pushed_extends m.heap
                  thing),
            ),
          ),
        ),
      )
  nulls_go class (Raise fault) h = tt
  nulls_go class (Toss object) h = absurd h
  nulls_go class (Invoke method) h = absurd h
  nulls_go class (Leave words) h = absurd h
  nulls_go class Stick h = absurd h

  -- ---- stores

  -- another array of the same shape
  array_set : (k : ℕ) (old new : HeapObject Class Field) (at : slice_get m.heap k ≡ Some old) → shape old ≡ shape new
      → IsFit new → HoldsItems l (slice_set m.heap k new) new → HasSlots l t m.heap new → (stack : List Value)
      (locals : List (Option Value)) → AreWords (object_is l m.heap) cs stack → AreLocals (object_is l m.heap) lc locals
      → Goes l t next cs lc m (Go next stack locals (with_thing m k new))
  array_set k old new at same is held slots stack locals w lw =
      let after = slice_set m.heap k new in
      let more = set_extends m.heap k old new at same in
      let still = object_still l m.heap after more in (
        refl,
        (
          words_stay (object_is l m.heap) (object_is l after) still cs stack w,
          (
            locals_stay (object_is l m.heap) (object_is l after) still lc locals lw,
            (memory_set l t m k old new at same fit is held slots, more),
          ),
        ),
      )

  -- another element of an array of references
  pub puts_go : (e : Outcome) → Puts l next cs lc m e → Goes l t next cs lc m e
  puts_go (Go at stack locals memory) h =
      let p = h.1.1.1 in
      let old : HeapObject Class Field = References p.class p.items in
      let new : HeapObject Class Field = References p.class (slice_set p.items p.index p.value) in
      let set = slice_set m.heap p.array new in
      let more = set_extends m.heap p.array old new p.there refl in
      let held : HoldsItems l set new = All-set (IsItem l set p.class) p.items p.index p.value
      (item_stays l m.heap set more p.class p.value p.fits) (All-weaker (IsItem l m.heap p.class) (IsItem l set p.class)
      (item_stays l m.heap set more p.class) p.items (fit.references p.array old p.there)) in
      let g = array_set p.array old new p.there refl tt held tt stack locals h.1.0 h.1.1.0 in
      subst (λ (x : Memory Class Field (List Image)). (at ≡ next) × (AreWords (object_is l x.heap) cs stack
      × (AreLocals (object_is l x.heap) lc locals × (IsMemory l t x × Extends m.heap x.heap)))) (sym p.is) (h.0, g.1)
  puts_go (Raise fault) h = tt
  puts_go (Toss object) h = absurd h
  puts_go (Invoke method) h = absurd h
  puts_go (Leave words) h = absurd h
  puts_go Stick h = absurd h

  module _ (vs : List Value) (w : AreWords (object_is l m.heap) cs vs) (lv : List (Option Value))
      (k : AreLocals (object_is l m.heap) lc lv) where
    index_set : (letter : Letter) (z : ℤ) → IsGiven letter z → (j : ℕ) (i : ℤ) (element : Element) (items : List ℤ)
        → is_element letter element ≡ true → slice_get m.heap j ≡ Some (Numbers element items)
        → Goes l t next cs lc m (item_at (Raise IndexOutside) items i (λ n old. Go next vs lv (with_thing m j
        (Numbers element (slice_set items n z)))))
    index_set letter z given j (negsuc i) element items is at = tt
    index_set letter z given j (pos i) element items is at = go (slice_get items i)
      where
        go : (o : Option ℤ) → Goes l t next cs lc m (with_some (Raise IndexOutside) o (λ old. Go next vs lv
            (with_thing m j
            (Numbers element (slice_set items i z)))))
        go None = tt
        go (Some old) = array_set j (Numbers element items) (Numbers element (slice_set items i z)) at refl
            (items_set letter element items i z is given (fit.numbers j (Numbers element items) at)) tt tt vs lv w k

    abbrev Into : (letter : Letter) (z : ℤ) (j : ℕ) (i : ℤ) → Option (HeapObject Class Field) → Type 0
    Into letter z j i o = Goes l t next cs lc m (with_some Stick o (numbers_in letter (λ element items. item_at
        (Raise IndexOutside) items i (λ n old. Go next vs lv (with_thing m j (Numbers element
        (slice_set items n z)))))))

    number_set : (letter : Letter) (z : ℤ) → IsGiven letter z → (j : ℕ) (i : ℤ) → IsNumbers letter (slice_get m.heap j)
        → Into letter z j i (slice_get m.heap j)
    number_set letter z given j i a = subst (Into letter z j i) (sym a.is) (go (is_element letter a.element) a.fits)
      where
        go : (b : Bool) → b ≡ true → Goes l t next cs lc m (if b then item_at (Raise IndexOutside) a.items i
            (λ n old. Go next vs lv (with_thing m j (Numbers a.element (slice_set a.items n z)))) else Stick)
        go true e = index_set letter z given j i a.element a.items a.fits a.is
        go false e = cc

    set_by : (letter : Letter) → (letter ≡ Reference → ⊥) → (z i : ℤ) → IsGiven letter z → (c : Cell) (v : Value)
        → all_types (begins_with (arrays_of letter)) c ≡ true → IsWord (object_is l m.heap) c v
        → Goes l t next cs lc m (thing_of m.heap v (λ j. numbers_in letter (λ element items. item_at
        (Raise IndexOutside)
        items i (λ n old. Go next vs lv (with_thing m j (Numbers element (slice_set items n z)))))))
    set_by letter other z i given Number v b is = cc
    set_by letter other z i given Unusable v b is = cc
    set_by letter other z i given (Refs names) (Num y) b is = absurd is
    set_by letter other z i given (Refs names) Null b is = tt
    set_by letter other z i given (Refs names) (Obj j) b is =
        number_set letter z given j i (numbers_of l letter is.type (slice_get m.heap j) other
        (passes_in (begins_with (arrays_of letter)) names is.type b is.among) is.holds)

    module _ (classes : Classes Class Field StaticCell (List Image)) where
      -- bastore
      pub byte_stored : (x i : ℤ) (c : Cell) (v : Value) → all_types (begins_with (arrays_of Byte)) c ≡ true
          → IsWord (object_is l m.heap) c v
          → Goes l t next cs lc m (store_number classes Byte next lv m (Num x ∷ Num i ∷ v ∷ vs))
      byte_stored x i c v b is = set_by Byte (λ e. cc) (low_byte x) i (byte_is_word x) c v b is

      -- sastore
      pub short_stored : (x i : ℤ) (c : Cell) (v : Value) → all_types (begins_with (arrays_of Short)) c ≡ true
          → IsWord (object_is l m.heap) c v
          → Goes l t next cs lc m (store_number classes Short next lv m (Num x ∷ Num i ∷ v ∷ vs))
      short_stored x i c v b is = set_by Short (λ e. cc) (low_word x) i (word_is_word x) c v b is

      -- iastore
      pub int_stored : (low high i : ℤ) (c : Cell) (v : Value) → all_types (begins_with (arrays_of Int)) c ≡ true
          → IsWord (object_is l m.heap) c v
          → Goes l t next cs lc m (store_number classes Int next lv m (Num low ∷ Num high ∷ Num i ∷ v ∷ vs))
      int_stored low high i c v b is = set_by Int (λ e. cc) (spelt_by high low) i tt c v b is
