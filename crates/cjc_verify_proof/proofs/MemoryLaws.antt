-- Values, slots and static cells stay what they are while a heap grows, and effects that keep memory.
use Rattle.std.proofs.Common.{◌≡◌, ℕ, suc, Bool, true, false, List, [], ◌∷◌, ◌++◌, length}
use Rattle.std.proofs.Common.{slice_get, slice_set, Option, Some, None, refl, sym, ap, subst, ◌∙◌, inl, nat_lt}
use Rattle.std.specs.Prelude.{if◌then◌else◌}
use Rattle.cjc_script.specs.declared.value.Value.{Value}
use Rattle.cjc_script.specs.declared.value.Value.TheVariants.{Num, Null, Obj}
use Rattle.cjc_types.specs.declared.cell.Cell.{Cell}
use Rattle.cjc_types.specs.declared.cell.Cell.TheVariants.{Number, Refs}
use Rattle.cjc_card_semantics.specs.Bytecode.Calculations as machine
use Rattle.cjc_card_semantics.specs.Bytecode.Effects.{Letter, HeapObject, Numbers, References, Object, shape, Slot}
use Rattle.cjc_card_semantics.specs.Bytecode.Effects.{slot_of}
use Rattle.cjc_card_semantics.specs.Bytecode.Effects.{slots_with, Memory, Effect, Go, Raise, Toss, Invoke, Leave, Stick}
use Rattle.cjc_card_semantics.specs.Bytecode.Effects.{words_of, onward, made, same_kind, with_some, with_thing}
use Rattle.cjc_card_semantics.specs.Machine.Loaded.{Loaded}
use Rattle.cjc_card_semantics.specs.Machine.Classes.{Class, Field, same_field}
use Rattle.cjc_card_semantics.specs.Machine.Statics.{Image, get_static}
use Rattle.cjc_card_semantics.specs.Machine.Operations.{Callee}
use Rattle.cjc_card_acts.specs.CardTypes.{ValueType, shape_by}
use Rattle.cjc_card_acts.specs.CardTypes as types
use Rattle.cjc_verify_proof.specs.Words.{AreWords, AreLocals}
use Rattle.cjc_verify_proof.specs.Heaps.{thing_is, object_is, IsFit, Onward}
use Rattle.cjc_verify_proof.specs.Growth.{Extends}
use Rattle.cjc_verify_proof.specs.References.{HoldsItems}
use Rattle.cjc_verify_proof.specs.Control.{cells_of}
use Rattle.cjc_verify_proof.specs.Values.{IsValue, Holds}
use Rattle.cjc_verify_proof.specs.Memories.{FieldTypes, AreSlots, HasSlots, AreCells, IsMemory, Goes}
use Rattle.cjc_script.proofs.BytesGets.{at_end}
use Rattle.cjc_verify_proof.proofs.GrowthLaws.{word_stays, words_stay, locals_stay, object_still, extends_itself}
use Rattle.cjc_verify_proof.proofs.GrowthLaws.{pushed_extends, set_extends, each_pushed, each_set, fit_pushed}
use Rattle.cjc_verify_proof.proofs.GrowthLaws.{held_pushed}
use Rattle.cjc_verify_proof.proofs.GrowthLaws.{fit_set, held_set}
use Rattle.cjc_verify_proof.proofs.HeapLaws.{goes_on}
use Rattle.cjc_card_semantics.proofs.MachineLaws.Keys.{field_tells, put_here, put_other}
use Rattle.cjc_verify_proof.proofs.ImageLaws.{Moves, of_booleans, of_bytes, of_shorts, of_ints, of_references}

-- ---- values

module _ (is more : (type : List ℕ) → (object : ℕ) → Bool)
    (still : (type : List ℕ) (k : ℕ) → is type k ≡ true → more type k ≡ true) where
  pub value_stays : (type : ValueType) (v : Value) → IsValue is type v → IsValue more type v
  value_stays types.Void v w = absurd w
  value_stays types.Boolean v w = w
  value_stays types.Byte v w = w
  value_stays types.Short v w = w
  value_stays types.Int v w = w
  value_stays (types.Reference type) v w = word_stays is more still (Refs (type ∷ [])) v w

  pub value_held : (type : ValueType) (o : Option Value) → Holds is type o → Holds more type o
  value_held type None w = absurd w
  value_held type (Some v) w = value_stays type v w

-- values of a type are of one kind
pub kind_of_type : (is : (type : List ℕ) → (object : ℕ) → Bool) (type : ValueType) (a b : Value) → IsValue is type a
    → IsValue is type b → same_kind a b ≡ true
kind_of_type is types.Void a b v w = absurd v
kind_of_type is types.Boolean (Num y) (Num z) v w = refl
kind_of_type is types.Boolean (Num y) Null v w = absurd w
kind_of_type is types.Boolean (Num y) (Obj k) v w = absurd w
kind_of_type is types.Boolean Null b v w = absurd v
kind_of_type is types.Boolean (Obj k) b v w = absurd v
kind_of_type is types.Byte (Num y) (Num z) v w = refl
kind_of_type is types.Byte (Num y) Null v w = absurd w
kind_of_type is types.Byte (Num y) (Obj k) v w = absurd w
kind_of_type is types.Byte Null b v w = absurd v
kind_of_type is types.Byte (Obj k) b v w = absurd v
kind_of_type is types.Short (Num y) (Num z) v w = refl
kind_of_type is types.Short (Num y) Null v w = absurd w
kind_of_type is types.Short (Num y) (Obj k) v w = absurd w
kind_of_type is types.Short Null b v w = absurd v
kind_of_type is types.Short (Obj k) b v w = absurd v
kind_of_type is types.Int (Num y) (Num z) v w = refl
kind_of_type is types.Int (Num y) Null v w = absurd w
kind_of_type is types.Int (Num y) (Obj k) v w = absurd w
kind_of_type is types.Int Null b v w = absurd v
kind_of_type is types.Int (Obj k) b v w = absurd v
kind_of_type is (types.Reference type) Null Null v w = refl
kind_of_type is (types.Reference type) Null (Obj k) v w = refl
kind_of_type is (types.Reference type) Null (Num z) v w = absurd w
kind_of_type is (types.Reference type) (Obj j) Null v w = refl
kind_of_type is (types.Reference type) (Obj j) (Obj k) v w = refl
kind_of_type is (types.Reference type) (Obj j) (Num z) v w = absurd w
kind_of_type is (types.Reference type) (Num z) b v w = absurd v

-- ---- memory

module _ (l : Loaded) (t : FieldTypes) where
  module _ (heap after : List (HeapObject Class Field)) (more : Extends heap after) where
    pub slots_stay : (c : Class) (slots : List (Slot Field)) → AreSlots l t (object_is l heap) c slots
        → AreSlots l t (object_is l after) c slots
    slots_stay c slots all f type typed kind = value_held (object_is l heap) (object_is l after)
        (object_still l heap after more) type (slot_of same_field slots f) (all f type typed kind)

    pub having_stays : (thing : HeapObject Class Field) → HasSlots l t heap thing → HasSlots l t after thing
    having_stays (Numbers element items) h = tt
    having_stays (References class items) h = tt
    having_stays (Object class slots) h = slots_stay class slots h

    pub cells_stay : (images : List Image) → AreCells l t heap images → AreCells l t after images
    cells_stay images all s type letter typed moved = value_held (object_is l heap) (object_is l after)
        (object_still l heap after more) type (get_static letter s images) (all s type letter typed moved)

  -- one thing more
  pub memory_pushed : (m : Memory Class Field (List Image)) (new : HeapObject Class Field) → IsMemory l t m → IsFit new
      → HoldsItems l (m.heap ++ new ∷ []) new → HasSlots l t m.heap new
      → IsMemory l t (record m { heap = m.heap ++ new ∷ [] })
  memory_pushed m new fit is_fit held slots =
      let after = m.heap ++ new ∷ [] in
      let more = pushed_extends m.heap new in
      record {
        numbers = fit_pushed l m.heap new fit.numbers is_fit;
        references = held_pushed l m.heap new fit.references held;
        slots = each_pushed (HasSlots l t after) m.heap (λ k thing e. having_stays m.heap after more thing (fit.slots k
            thing e)) new (having_stays m.heap after more new slots);
        cells = cells_stay m.heap after more m.statics fit.cells;
      }

  -- another in the place of one of its shape
  pub memory_set : (m : Memory Class Field (List Image)) (k : ℕ) (old new : HeapObject Class Field)
      → slice_get m.heap k ≡ Some old → shape old ≡ shape new → IsMemory l t m → IsFit new
      → HoldsItems l (slice_set m.heap k new) new → HasSlots l t m.heap new → IsMemory l t (with_thing m k new)
  memory_set m k old new at same fit is_fit held slots =
      let after = slice_set m.heap k new in
      let more = set_extends m.heap k old new at same in
      record {
        numbers = fit_set l m.heap new k old at fit.numbers is_fit;
        references = held_set l m.heap new k old at same fit.references held;
        slots = each_set (HasSlots l t after) m.heap (λ j thing e. having_stays m.heap after more thing (fit.slots j
            thing e)) new (having_stays m.heap after more new slots) k old at;
        cells = cells_stay m.heap after more m.statics fit.cells;
      }

  -- slots with another value under a field
  pub slots_put : (is : (type : List ℕ) → (object : ℕ) → Bool) (c : Class) (slots : List (Slot Field))
      → AreSlots l t is c slots → (f : Field) (type : ValueType) → t.field f ≡ Some type → (old v : Value)
      → slot_of same_field slots f ≡ Some old → IsValue is type v
      → AreSlots l t is c (slots_with same_field slots f v)
  slots_put is c slots all f type typed old v there w g its its_typed kind = by (same_field f g) refl
    where
      by : (b : Bool) → same_field f g ≡ b → Holds is its (slot_of same_field (slots_with same_field slots f v) g)
      by true e =
          let same = field_tells f g e in
          let both : Some type ≡ Some its = sym typed ∙ ap t.field same ∙ its_typed in
          let one : type ≡ its = cc in
          subst (λ x. Holds is its (slot_of same_field (slots_with same_field slots f v) x)) same
          (subst (Holds is its) (sym (put_here slots f old v there)) (subst (λ x. IsValue is x v) one w))
      by false e = subst (Holds is its) (sym (put_other slots f g v e)) (all g its its_typed kind)

-- ---- effects

-- what keeps memory as it is keeps what it holds
pub onward_go : (l : Loaded) (t : FieldTypes) (next : ℕ) (m : Memory Class Field (List Image)) → IsMemory l t m
    → (s c : List Cell) (e : Effect Class Field Callee (List Image)) → Onward l next s c m e → Goes l t next s c m e
onward_go l t next m fit s c (Go at stack locals memory) h =
    subst (λ (x : Memory Class Field (List Image)). (at ≡ next) × (AreWords (object_is l x.heap) s stack
    × (AreLocals (object_is l x.heap) c locals × (IsMemory l t x × Extends m.heap x.heap)))) (sym h.1.1.1)
    (h.0, (h.1.0, (h.1.1.0, (fit, extends_itself m.heap))))
onward_go l t next m fit s c (Raise fault) h = tt
onward_go l t next m fit s c (Toss object) h = absurd h
onward_go l t next m fit s c (Invoke method) h = absurd h
onward_go l t next m fit s c (Leave words) h = absurd h
onward_go l t next m fit s c Stick h = absurd h

module _ (l : Loaded) (t : FieldTypes) (room next : ℕ) (lc : List Cell) (lv : List (Option Value))
    (m : Memory Class Field (List Image)) (k : AreLocals (object_is l m.heap) lc lv) (fit : IsMemory l t m) where
  -- words that are pushed
  pub push_goes : (cs : List Cell) (vs : List Value) → AreWords (object_is l m.heap) cs vs → (new : List Cell)
      (ws : List Value) → AreWords (object_is l m.heap) new ws → nat_lt room (length (new ++ cs)) ≡ false
      → Goes l t next (new ++ cs) lc m (onward ws room next lv m vs)
  push_goes cs vs w new ws n h = onward_go l t next m fit (new ++ cs) lc (onward ws room next lv m vs)
      (goes_on l room next lc lv m k
      cs vs w new ws n h)

  -- a value of a type that is pushed by a letter which moves such values
  pub value_goes : {letter : Letter} {type : ValueType} → Moves letter type → (v : Value)
      → IsValue (object_is l m.heap) type v → (cs : List Cell) (vs : List Value) → AreWords (object_is l m.heap) cs vs
      → nat_lt room (length (cells_of type ++ cs)) ≡ false
      → Goes l t next (cells_of type ++ cs) lc m (words_of letter v Stick (λ ws. onward ws room next lv m vs))
  value_goes of_booleans (Num z) is cs vs w h = subst (λ b. Goes l t next (Number ∷ cs) lc m (if b
      then onward (Num z ∷ []) room next lv m vs else Stick)) (sym is) (push_goes cs vs w (Number ∷ []) (Num z ∷ [])
      (tt, tt) h)
  value_goes of_bytes (Num z) is cs vs w h = subst (λ b. Goes l t next (Number ∷ cs) lc m (if b
      then onward (Num z ∷ []) room next lv m vs else Stick)) (sym is) (push_goes cs vs w (Number ∷ []) (Num z ∷ [])
      (tt, tt) h)
  value_goes of_shorts (Num z) is cs vs w h = subst (λ b. Goes l t next (Number ∷ cs) lc m (if b
      then onward (Num z ∷ []) room next lv m vs else Stick)) (sym is) (push_goes cs vs w (Number ∷ []) (Num z ∷ [])
      (tt, tt) h)
  value_goes of_ints (Num z) is cs vs w h = push_goes cs vs w (Number ∷ Number ∷ []) (machine.int_words z)
      (tt, (tt, tt)) h
  value_goes (of_references type) Null is cs vs w h = push_goes cs vs w (Refs (type ∷ []) ∷ []) (Null ∷ []) (tt, tt) h
  value_goes (of_references type) (Obj j) is cs vs w h = push_goes cs vs w (Refs (type ∷ []) ∷ []) (Obj j ∷ [])
      (is, tt) h
  value_goes (of_references type) (Num z) is cs vs w h = absurd is
  value_goes of_booleans Null is cs vs w h = absurd is
  value_goes of_booleans (Obj j) is cs vs w h = absurd is
  value_goes of_bytes Null is cs vs w h = absurd is
  value_goes of_bytes (Obj j) is cs vs w h = absurd is
  value_goes of_shorts Null is cs vs w h = absurd is
  value_goes of_shorts (Obj j) is cs vs w h = absurd is
  value_goes of_ints Null is cs vs w h = absurd is
  value_goes of_ints (Obj j) is cs vs w h = absurd is

  -- a value that may be there
  pub held_goes : {letter : Letter} {type : ValueType} → Moves letter type → (o : Option Value)
      → Holds (object_is l m.heap) type o → (cs : List Cell) (vs : List Value) → AreWords (object_is l m.heap) cs vs
      → nat_lt room (length (cells_of type ++ cs)) ≡ false
      → Goes l t next (cells_of type ++ cs) lc m (with_some Stick o (λ v. words_of letter v Stick (λ ws. onward
      ws room next lv m vs)))
  held_goes mv None is cs vs w h = absurd is
  held_goes mv (Some v) is cs vs w h = value_goes mv v is cs vs w h

  -- a new array or object of a type
  pub new_goes : (new : HeapObject Class Field) → IsFit new → HoldsItems l (m.heap ++ new ∷ []) new
      → HasSlots l t m.heap new → (type : List ℕ) → thing_is l (Some new) (shape_by l type) ≡ true
      → (cs : List Cell) (vs : List Value) → AreWords (object_is l m.heap) cs vs
      → nat_lt room (suc (length cs)) ≡ false
      → Goes l t next (Refs (type ∷ []) ∷ cs) lc m (made new room next lv m vs)
  new_goes new is_fit held slots type is cs vs w h =
      let more = pushed_extends m.heap new in
      let still = object_still l m.heap (m.heap ++ new ∷ []) more in
      let w' = words_stay (object_is l m.heap) (object_is l (m.heap ++ new ∷ [])) still cs vs w in
      let k' = locals_stay (object_is l m.heap) (object_is l (m.heap ++ new ∷ [])) still lc lv k in
      let there : object_is l (m.heap ++ new ∷ []) type (length m.heap) ≡ true = ap (λ o. thing_is l o
      (shape_by l type)) (at_end m.heap new) ∙ is in
      by (made new room next lv m vs) (goes_on l room next lc lv (record m { heap = m.heap ++ new ∷ [] }) k' cs vs w'
      (Refs (type ∷ []) ∷ []) (Obj
      (length m.heap) ∷ []) (record { type = type; among = inl refl; holds = there }, tt) h)
    where
      by : (e : Effect Class Field Callee (List Image))
          → Onward l next (Refs (type ∷ []) ∷ cs) lc (record m { heap = m.heap ++ new ∷ [] }) e
          → Goes l t next (Refs (type ∷ []) ∷ cs) lc m e
      by (Go at stack locals memory) o =
          subst (λ (x : Memory Class Field (List Image)). (at ≡ next) × (AreWords (object_is l x.heap) (Refs (type ∷ [])
          ∷ cs) stack × (AreLocals (object_is l x.heap) lc locals × (IsMemory l t x × Extends m.heap x.heap))))
          (sym o.1.1.1)
          (o.0, (o.1.0, (o.1.1.0, (memory_pushed l t m new fit is_fit held slots, pushed_extends m.heap new))))
      by (Raise fault) o = tt
      by (Toss object) o = absurd o
      by (Invoke method) o = absurd o
      by (Leave words) o = absurd o
      by Stick o = absurd o
