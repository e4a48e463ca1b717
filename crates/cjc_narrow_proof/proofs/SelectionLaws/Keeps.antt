-- Where each array and object keeps its type, all that agreed agrees still; and a new one changes nothing before it.
use Rattle.std.proofs.Common.{◌≡◌, ◌⊎◌, ℕ, zero, suc, refl, ap, subst, ◌∙◌, List, [], ◌∷◌, ◌++◌, inl, inr, sym}
use Rattle.std.specs.Prelude.{Option, Some, slice_get, slice_set}
use Rattle.cjc_bytes.specs.declared.fault.MemberId.{MemberId}
use Rattle.cjc_bytes.proofs.Gets.{in_front, map_set}
use Rattle.cjc_script.specs.declared.value.Value.{Value}
use Rattle.cjc_script.specs.Sorts.{Sort}
use Rattle.cjc_card_semantics.specs.Bytecode.Effects.{Slot, HeapObject, shape}
use Rattle.cjc_card_semantics.proofs.BytecodeLaws.Natural.{map_last}
use Rattle.cjc_ncode.specs.ByLabel.{Named}
use Rattle.cjc_jvm_semantics.specs.Effects.{Store}
use Rattle.cjc_narrow_proof.specs.Selection.Relation.{Kind, Heap, NMemory, Agrees, number, null, object, free, Stacks}
use Rattle.cjc_narrow_proof.specs.Selection.Relation.{bottom, cell, left_out, Locals, no_more, local, unused, CellFits}
use Rattle.cjc_narrow_proof.specs.Selection.Relation.{a_boolean, a_byte, a_short, an_int, a_null, an_object, SlotsFit}
use Rattle.cjc_narrow_proof.specs.Selection.Relation.{no_slots, slot, ThingFits, numbers, references, of_class}
use Rattle.cjc_narrow_proof.specs.Selection.Relation.{IsMadeOf, HeapFits, shown, Stores}
use Rattle.cjc_narrow_proof.specs.Selection.Acts.{IsAt, Keeps}

module _ {heap after : Heap} (keeps : Keeps heap after) where
  pub agree_kept : {k : Kind} {v w : Value} → Agrees heap k v w → Agrees after k v w
  agree_kept (number e h) = number e h
  agree_kept null = null
  agree_kept (object {within = within} {k = k} thing is passes) = let a = keeps k thing is
      in object a.thing a.is (ap within a.type ∙ passes)
  agree_kept free = free

  pub stacks_kept : {ks : List Kind} {vs ws : List Value} → Stacks heap ks vs ws → Stacks after ks vs ws
  stacks_kept bottom = bottom
  stacks_kept (cell a rest) = cell (agree_kept a) (stacks_kept rest)
  stacks_kept (left_out a rest) = left_out (agree_kept a) (stacks_kept rest)

  pub locals_kept : {ks : List Kind} {vs ws : List (Option Value)} → Locals heap ks vs ws → Locals after ks vs ws
  locals_kept no_more = no_more
  locals_kept (local a rest) = local (agree_kept a) (locals_kept rest)
  locals_kept (unused rest) = unused (locals_kept rest)

  pub cell_kept : (l : Named) {sort : Sort} {v : Value} → CellFits l heap sort v → CellFits l after sort v
  cell_kept l (a_boolean h) = a_boolean h
  cell_kept l (a_byte h) = a_byte h
  cell_kept l (a_short h) = a_short h
  cell_kept l (an_int h) = an_int h
  cell_kept l a_null = a_null
  cell_kept l (an_object {kind = kind} {k = k} thing is e) = let a = keeps k thing is
      in an_object a.thing a.is (ap (λ s. l.is_of s kind) a.type ∙ e)

  pub slots_kept : (l : Named) {slots : List (Slot MemberId)} → SlotsFit l heap slots → SlotsFit l after slots
  slots_kept l no_slots = no_slots
  slots_kept l (slot h rest) = slot (cell_kept l h) (slots_kept l rest)

  pub thing_kept : (l : Named) {thing : HeapObject (List ℕ) MemberId} → ThingFits l heap thing → ThingFits l after thing
  thing_kept l (numbers few fits) = numbers few fits
  thing_kept l (references arrays few fits) = references arrays few (λ k d low. cell_kept l (fits k d low))
  thing_kept l (of_class is fits) = of_class is (slots_kept l fits)

-- what is there is of a type of which something may be there
pub made_there : (l : Named) {heap : Heap} (thing : HeapObject (List ℕ) MemberId) → ThingFits l heap thing
    → IsMadeOf l (shape thing)
made_there l _ (numbers few fits) = tt
made_there l _ (references arrays few fits) = arrays
made_there l _ (of_class is fits) = (_, is)

-- ---- a new array or object

get_either : {A : Type 0} (xs : List A) (x y : A) (k : ℕ) → slice_get (xs ++ x ∷ []) k ≡ Some y
    → (slice_get xs k ≡ Some y) ⊎ (x ≡ y)
get_either [] x y zero e = let is : x ≡ y = cc in inr is
get_either [] x y (suc k) e = cc
get_either (z ∷ xs) x y zero e = inl e
get_either (z ∷ xs) x y (suc k) e = get_either xs x y k e

pub grown_keeps : (heap : Heap) (thing : HeapObject (List ℕ) MemberId) → Keeps heap (heap ++ thing ∷ [])
grown_keeps heap thing k other is = record { thing = other; is = in_front heap (thing ∷ []) k other is; type = refl }

pub grown_fits : (l : Named) (heap : Heap) (thing : HeapObject (List ℕ) MemberId) → HeapFits l heap
    → ThingFits l (heap ++ thing ∷ []) thing → HeapFits l (heap ++ thing ∷ [])
grown_fits l heap thing fits new k other is = by (get_either heap thing other k is)
  where
    by : ((slice_get heap k ≡ Some other) ⊎ (thing ≡ other)) → ThingFits l (heap ++ thing ∷ []) other
    by (inl e) = thing_kept (grown_keeps heap thing) l (fits k other e)
    by (inr e) = subst (ThingFits l (heap ++ thing ∷ [])) e new

pub grown_stores : (l : Named) (store : Store) (memory : NMemory) (thing : HeapObject (List ℕ) MemberId)
    → Stores l store memory → ThingFits l (memory.heap ++ thing ∷ []) thing
    → Stores l (record store { heap = store.heap ++ shown l thing ∷ [] }) (record memory {
      heap = memory.heap
          ++ thing ∷ [];
    })
grown_stores l store memory thing stores new = record {
  heap = ap (λ h. h ++ shown l thing ∷ []) stores.heap ∙ map_last (shown l) memory.heap thing;
  statics = stores.statics;
  heap_fits = grown_fits l memory.heap thing stores.heap_fits new;
  statics_fit = slots_kept (grown_keeps memory.heap thing) l stores.statics_fit;
  cells = stores.cells;
}

-- ---- another array or object of the same type in its place

set_get : {A : Type 0} (xs : List A) (k j : ℕ) (x y : A) → slice_get xs j ≡ Some y
    → (slice_get (slice_set xs k x) j ≡ Some y) ⊎ ((j ≡ k) × (slice_get (slice_set xs k x) j ≡ Some x))
set_get [] k j x y e = cc
set_get (z ∷ xs) zero zero x y e = inr (refl, refl)
set_get (z ∷ xs) zero (suc j) x y e = inl e
set_get (z ∷ xs) (suc k) zero x y e = inl e
set_get (z ∷ xs) (suc k) (suc j) x y e = by (set_get xs k j x y e)
  where
    by : ((slice_get (slice_set xs k x) j ≡ Some y) ⊎ ((j ≡ k) × (slice_get (slice_set xs k x) j ≡ Some x)))
        → ((slice_get (slice_set xs k x) j ≡ Some y) ⊎ ((suc j ≡ suc k) × (slice_get (slice_set xs k x) j ≡ Some x)))
    by (inl h) = inl h
    by (inr (is, h)) = inr (ap suc is, h)

set_from : {A : Type 0} (xs : List A) (k j : ℕ) (x y : A) → slice_get (slice_set xs k x) j ≡ Some y
    → (slice_get xs j ≡ Some y) ⊎ (x ≡ y)
set_from [] k j x y e = cc
set_from (z ∷ xs) zero zero x y e = let is : x ≡ y = cc in inr is
set_from (z ∷ xs) zero (suc j) x y e = inl e
set_from (z ∷ xs) (suc k) zero x y e = inl e
set_from (z ∷ xs) (suc k) (suc j) x y e = set_from xs k j x y e

pub set_keeps : (heap : Heap) (k : ℕ) (old new : HeapObject (List ℕ) MemberId) → slice_get heap k ≡ Some old
    → shape new ≡ shape old → Keeps heap (slice_set heap k new)
set_keeps heap k old new there same j thing is = by (set_get heap k j new thing is)
  where
    by : ((slice_get (slice_set heap k new) j ≡ Some thing)
        ⊎ ((j ≡ k) × (slice_get (slice_set heap k new) j ≡ Some new))) → IsAt (slice_set heap k new) j (shape thing)
    by (inl h) = record { thing = thing; is = h; type = refl }
    by (inr (at, h)) =
        let e : Some old ≡ Some thing = sym there ∙ ap (slice_get heap) (sym at) ∙ is in
        let f : old ≡ thing = cc in
        record { thing = new; is = h; type = same ∙ ap shape f }

pub set_fits : (l : Named) (heap : Heap) (k : ℕ) (old new : HeapObject (List ℕ) MemberId) → slice_get heap k ≡ Some old
    → shape new ≡ shape old → HeapFits l heap → ThingFits l heap new → HeapFits l (slice_set heap k new)
set_fits l heap k old new there same fits h j thing is = by (set_from heap k j new thing is)
  where
    by : ((slice_get heap j ≡ Some thing) ⊎ (new ≡ thing)) → ThingFits l (slice_set heap k new) thing
    by (inl e) = thing_kept (set_keeps heap k old new there same) l (fits j thing e)
    by (inr e) = thing_kept (set_keeps heap k old new there same) l (subst (ThingFits l heap) e h)

pub set_stores : (l : Named) (store : Store) (memory : NMemory) (k : ℕ) (old new : HeapObject (List ℕ) MemberId)
    → slice_get memory.heap k ≡ Some old → shape new ≡ shape old → Stores l store memory → ThingFits l memory.heap new
    → Stores l (record store { heap = slice_set store.heap k (shown l new) })
    (record memory { heap = slice_set memory.heap k new })
set_stores l store memory k old new there same stores h = record {
  heap = ap (λ xs. slice_set xs k (shown l new)) stores.heap ∙ map_set (shown l) memory.heap k new;
  statics = stores.statics;
  heap_fits = set_fits l memory.heap k old new there same stores.heap_fits h;
  statics_fit = slots_kept (set_keeps memory.heap k old new there same) l stores.statics_fit;
  cells = stores.cells;
}
