-- Instructions on fields, static fields and new leave arrays and objects of classes of which objects are made.
use Rattle.std.proofs.Common.{◌≡◌, inl, inr, ℕ, zero, suc, Bool, true, false, nat_le, List, [], ◌∷◌, ◌++◌, length}
use Rattle.std.proofs.Common.{slice_get, slice_set, Option, Some, None, refl, sym, ap, subst, ◌∙◌, ℤ}
use Rattle.std.specs.Prelude.{if◌then◌else◌}
use Rattle.cjc_script.specs.declared.value.Value.{Value}
use Rattle.cjc_script.specs.declared.value.Value.TheVariants.{Num, Null, Obj}
use Rattle.cjc_script.specs.Sorts.{Shape}
use Rattle.cjc_card_semantics.specs.Range.Words.{low_word, low_byte}
use Rattle.cjc_card_semantics.specs.Bytecode.Numbers.{is_word, spelt_by}
use Rattle.cjc_card_semantics.specs.Bytecode.Calculations.{Result, Fine, Fails, Wrong, Choice, Takes, Neither}
use Rattle.cjc_card_semantics.specs.Bytecode.Calculations.{one_number}
use Rattle.cjc_card_semantics.specs.Bytecode.Calculations.{one_value, one_int, two_numbers}
use Rattle.cjc_card_semantics.specs.Bytecode.Calculations as machine
use Rattle.cjc_card_semantics.specs.Bytecode.Effects.{Letter, Reference, Byte, Short, Int}
use Rattle.cjc_card_semantics.specs.Bytecode.Effects.{Slot, HeapObject, Numbers, References, Object}
use Rattle.cjc_card_semantics.specs.Bytecode.Effects.{shape, Memory, Classes, Get, Put}
use Rattle.cjc_card_semantics.specs.Bytecode.Effects.{GetStatic, PutStatic, New}
use Rattle.cjc_card_semantics.specs.Bytecode.Effects.{Effect, Go, Raise, Toss, Invoke, Leave, Stick}
use Rattle.cjc_card_semantics.specs.Bytecode.Effects.{one_reference, operand, words_of, with_some}
use Rattle.cjc_card_semantics.specs.Bytecode.Effects.{onward, thing_of, object_in}
use Rattle.cjc_card_semantics.specs.Bytecode.Effects.{with_thing, receiver, made, put_slot, effect}
use Rattle.cjc_card_semantics.specs.Bytecode.Effects.{slot_of, slots_with, same_kind}
use Rattle.cjc_card_semantics.specs.Machine.Classes.{Class, Field}
use Rattle.cjc_card_semantics.specs.Machine.Statics.{Image, StaticCell}
use Rattle.cjc_card_semantics.specs.Machine.Operations.{Callee}
use Rattle.cjc_verify_proof.specs.Heaps.{shape_in}
use Rattle.cjc_verify_proof.specs.Frames.{Program}
use Rattle.cjc_verify_proof.specs.Turns.{IsMade, AreMade}
use Rattle.cjc_script.proofs.BytesGets.{set_same, set_other}
use Rattle.cjc_script.proofs.BytesNumbers.{same_place}

module _ (program : Program) (m : Memory Class Field (List Image)) where
  -- where an instruction goes on, all is made
  abbrev pub Makes : Effect Class Field Callee (List Image) → Type 0
  Makes (Go at stack locals memory) = AreMade program m.heap → AreMade program memory.heap
  Makes (Raise fault) = Unit {0}
  Makes (Toss object) = Unit {0}
  Makes (Invoke callee) = Unit {0}
  Makes (Leave words) = Unit {0}
  Makes Stick = Unit {0}

  abbrev E : Type 0
  E = Effect Class Field Callee (List Image)

  -- ---- the heap

  -- one thing more that is made
  pub pushed_made : (thing : HeapObject Class Field) → IsMade program (shape thing) → AreMade program m.heap
      → AreMade program (m.heap ++ thing ∷ [])
  pushed_made thing is all k kind e = go m.heap k e all
    where
      go : (xs : List (HeapObject Class Field)) (k : ℕ) → shape_in (slice_get (xs ++ thing ∷ []) k) ≡ Some kind
          → ((k : ℕ) (kind : Shape Class) → shape_in (slice_get xs k) ≡ Some kind → IsMade program kind)
          → IsMade program kind
      go [] zero e all = (let same : shape thing ≡ kind = cc in subst (IsMade program) same is)
      go [] (suc k) e all = cc
      go (x ∷ xs) zero e all = all zero kind e
      go (x ∷ xs) (suc k) e all = go xs k e (λ j other f. all (suc j) other f)

  -- another thing of the same shape in the place of one
  pub set_made : (k : ℕ) (old new : HeapObject Class Field) → slice_get m.heap k ≡ Some old → shape old ≡ shape new
      → AreMade program m.heap → AreMade program (slice_set m.heap k new)
  set_made k old new at same all j kind e = elim (same_place k j) [
    | inl here ↦ (
        let found : slice_get (slice_set m.heap k new) j ≡ Some new =
        subst (λ i. slice_get (slice_set m.heap k new) i ≡ Some new) here (set_same m.heap k new old at) in
        let was : slice_get m.heap j ≡ Some old = subst (λ i. slice_get m.heap i ≡ Some old) here at in
        all j kind (ap shape_in was ∙ ap (λ s. Some s) same ∙ sym (ap shape_in found) ∙ e)
        )
    | inr other ↦ all j kind (ap shape_in (sym (set_other m.heap k j new other)) ∙ e)
  ]

  -- ---- what instructions are made of

  some_makes : {A : Type 0} (otherwise : E) → Makes otherwise → (o : Option A) (go : A → E)
      → ((x : A) → o ≡ Some x → Makes (go x)) → Makes (with_some otherwise o go)
  some_makes otherwise h None go f = h
  some_makes otherwise h (Some x) go f = f x refl

  number_makes : (stack : List Value) (go : ℤ → List Value → E) → ((x : ℤ) (rest : List Value) → Makes (go x rest))
      → Makes (one_number Stick stack go)
  number_makes [] go f = tt
  number_makes (Num x ∷ stack) go f = f x stack
  number_makes (Null ∷ stack) go f = tt
  number_makes (Obj k ∷ stack) go f = tt

  value_makes : (stack : List Value) (go : Value → List Value → E) → ((v : Value) (rest : List Value) → Makes
      (go v rest)) → Makes (one_value Stick stack go)
  value_makes [] go f = tt
  value_makes (v ∷ stack) go f = f v stack

  reference_makes : (stack : List Value) (go : Value → List Value → E) → ((v : Value) (rest : List Value) → Makes
      (go v rest)) → Makes (one_reference Stick stack go)
  reference_makes [] go f = tt
  reference_makes (Num x ∷ stack) go f = tt
  reference_makes (Null ∷ stack) go f = f Null stack
  reference_makes (Obj k ∷ stack) go f = f (Obj k) stack

  two_make : (stack : List Value) (go : ℤ → ℤ → List Value → E) → ((x y : ℤ) (rest : List Value) → Makes (go x y rest))
      → Makes (two_numbers Stick stack go)
  two_make [] go f = tt
  two_make (Null ∷ stack) go f = tt
  two_make (Obj k ∷ stack) go f = tt
  two_make (Num y ∷ []) go f = tt
  two_make (Num y ∷ Null ∷ stack) go f = tt
  two_make (Num y ∷ Obj k ∷ stack) go f = tt
  two_make (Num y ∷ Num x ∷ stack) go f = f x y stack

  int_makes : (stack : List Value) (go : ℤ → List Value → E) → ((x : ℤ) (rest : List Value) → Makes (go x rest))
      → Makes (one_int Stick stack go)
  int_makes stack go f = two_make stack (λ high low rest. go (spelt_by high low) rest) (λ high low rest. f
      (spelt_by high low) rest)

  operand_makes : (letter : Letter) (stack : List Value) (go : Value → List Value → E) → ((v : Value)
      (rest : List Value) → Makes (go v rest)) → Makes (operand letter Stick stack go)
  operand_makes Reference stack go f = reference_makes stack go f
  operand_makes Byte stack go f = number_makes stack (λ x rest. go (Num (low_byte x)) rest) (λ x rest. f
      (Num (low_byte x)) rest)
  operand_makes Short stack go f = number_makes stack (λ x rest. go (Num (low_word x)) rest) (λ x rest. f
      (Num (low_word x)) rest)
  operand_makes Int stack go f = int_makes stack (λ z rest. go (Num z) rest) (λ z rest. f (Num z) rest)

  thing_makes : (v : Value) (go : ℕ → HeapObject Class Field → E) → ((k : ℕ) (thing : HeapObject Class Field)
      → slice_get m.heap k ≡ Some thing → Makes (go k thing)) → Makes (thing_of m.heap v go)
  thing_makes (Num x) go f = tt
  thing_makes Null go f = tt
  thing_makes (Obj k) go f = some_makes Stick tt (slice_get m.heap k) (go k) (λ thing at. f k thing at)

  onward_makes : (ws : List Value) (room next : ℕ) (lv : List (Option Value)) (rest : List Value)
      → Makes (onward ws room next lv m rest)
  onward_makes ws room next lv rest = go (nat_le (length (ws ++ rest)) room)
    where
      go : (b : Bool) → Makes (if b then Go next (ws ++ rest) lv m else Stick)
      go true = λ all. all
      go false = tt

  words_make : (letter : Letter) (v : Value) (go : List Value → E) → ((ws : List Value) → Makes (go ws))
      → Makes (words_of letter v Stick go)
  words_make Reference (Num z) go f = tt
  words_make Reference Null go f = f (Null ∷ [])
  words_make Reference (Obj k) go f = f (Obj k ∷ [])
  words_make Byte (Num z) go f = by (is_word z)
    where
      by : (b : Bool) → Makes (if b then go (Num z ∷ []) else Stick)
      by true = f (Num z ∷ [])
      by false = tt
  words_make Byte Null go f = tt
  words_make Byte (Obj k) go f = tt
  words_make Short (Num z) go f = by (is_word z)
    where
      by : (b : Bool) → Makes (if b then go (Num z ∷ []) else Stick)
      by true = f (Num z ∷ [])
      by false = tt
  words_make Short Null go f = tt
  words_make Short (Obj k) go f = tt
  words_make Int (Num z) go f = f (machine.int_words z)
  words_make Int Null go f = tt
  words_make Int (Obj k) go f = tt

  -- ---- instructions on fields

  receiver_makes : (this : Bool) (lv : List (Option Value)) (stack : List Value) (go : Value → List Value → E)
      → ((v : Value) (rest : List Value) → Makes (go v rest)) → Makes (receiver this lv stack go)
  receiver_makes false lv stack go f = value_makes stack go f
  receiver_makes true lv stack go f = some_makes Stick tt (slice_get lv 0) (λ o. with_some Stick o (λ v. go v stack))
      (λ o e. some_makes Stick tt o (λ v. go v stack) (λ v h. f v stack))

  object_makes : (thing : HeapObject Class Field) (go : Class → List (Slot Field) → E)
      → ((c : Class) (slots : List (Slot Field)) → thing ≡ Object c slots → Makes (go c slots))
      → Makes (object_in go thing)
  object_makes (Numbers e items) go f = tt
  object_makes (References c items) go f = tt
  object_makes (Object c slots) go f = f c slots refl

  pub get_makes : (set : Classes Class Field StaticCell (List Image)) (this : Bool) (letter : Letter) (f : Field)
      (room next : ℕ) (lv : List (Option Value)) (vs : List Value)
      → Makes (effect set (Get this letter f) room next lv m vs)
  get_makes set this letter f room next lv vs = receiver_makes this lv vs (λ r rest. thing_of m.heap r
      (λ k. object_in (λ class slots. with_some Stick (slot_of set.same_field slots f) (λ v. words_of letter v Stick
      (λ ws. onward ws room next lv m rest)))))
      (λ r rest. thing_makes r (λ k. object_in (λ class slots. with_some Stick (slot_of set.same_field slots f)
      (λ v. words_of letter v Stick (λ ws. onward ws room next lv m rest))))
      (λ k thing at. object_makes thing (λ class slots. with_some Stick (slot_of set.same_field slots f)
      (λ v. words_of letter v Stick (λ ws. onward ws room next lv m rest)))
      (λ c slots e. some_makes Stick tt (slot_of set.same_field slots f) (λ v. words_of letter v Stick
      (λ ws. onward ws room next lv m rest)) (λ v h. words_make letter v (λ ws. onward ws room next lv m rest)
      (λ ws. onward_makes ws room next lv rest)))))

  put_object : (set : Classes Class Field StaticCell (List Image)) (f : Field) (v : Value) (next : ℕ)
      (lv : List (Option Value)) (rest : List Value) (k : ℕ) (c : Class) (slots : List (Slot Field))
      → slice_get m.heap k ≡ Some (Object c slots) → (old : Option Value)
      → Makes (put_slot set old v (Go next rest lv (with_thing m k (Object c (slots_with set.same_field slots f v)))))
  put_object set f v next lv rest k c slots at None = tt
  put_object set f v next lv rest k c slots at (Some old) = go (same_kind old v)
    where
      go : (b : Bool) → Makes (if b then Go next rest lv (with_thing m k (Object c
          (slots_with set.same_field slots f v)))
          else Stick)
      go true = λ all. set_made k (Object c slots) (Object c (slots_with set.same_field slots f v)) at refl all
      go false = tt

  pub put_makes : (set : Classes Class Field StaticCell (List Image)) (this : Bool) (letter : Letter) (f : Field)
      (room next : ℕ) (lv : List (Option Value)) (vs : List Value)
      → Makes (effect set (Put this letter f) room next lv m vs)
  put_makes set this letter f room next lv vs = operand_makes letter vs (λ v below. receiver this lv below
      (λ r rest. thing_of m.heap r (λ k. object_in (λ class slots. put_slot set (slot_of set.same_field slots f) v
      (Go next rest lv (with_thing m k (Object class (slots_with set.same_field slots f v))))))))
      (λ v below. receiver_makes this lv below (λ r rest. thing_of m.heap r (λ k. object_in
      (λ class slots. put_slot set (slot_of set.same_field slots f) v (Go next rest lv (with_thing m k (Object class
      (slots_with set.same_field slots f v)))))))
      (λ r rest. thing_makes r (λ k. object_in (λ class slots. put_slot set (slot_of set.same_field slots f) v
      (Go next rest lv (with_thing m k (Object class (slots_with set.same_field slots f v))))))
      (λ k thing at. object_makes thing (λ class slots. put_slot set (slot_of set.same_field slots f) v
      (Go next rest lv (with_thing m k (Object class (slots_with set.same_field slots f v)))))
      (λ c slots e. put_object set f v next lv rest k c slots (at ∙ ap (λ x. Some x) e) (slot_of set.same_field slots
      f)))))

  pub get_static_makes : (set : Classes Class Field StaticCell (List Image)) (letter : Letter) (c : StaticCell)
      (room next : ℕ) (lv : List (Option Value)) (vs : List Value)
      → Makes (effect set (GetStatic letter c) room next lv m vs)
  get_static_makes set letter c room next lv vs = some_makes Stick tt (set.get_static letter c m.statics)
      (λ v. words_of letter v Stick (λ ws. onward ws room next lv m vs))
      (λ v h. words_make letter v (λ ws. onward ws room next lv m vs) (λ ws. onward_makes ws room next lv vs))

  pub put_static_makes : (set : Classes Class Field StaticCell (List Image)) (letter : Letter) (c : StaticCell)
      (room next : ℕ) (lv : List (Option Value)) (vs : List Value)
      → Makes (effect set (PutStatic letter c) room next lv m vs)
  put_static_makes set letter c room next lv vs = operand_makes letter vs (λ v rest. with_some Stick
      (set.put_static letter c v m.statics) (λ x. Go next rest lv (record m { statics = x })))
      (λ v rest. some_makes Stick tt (set.put_static letter c v m.statics) (λ x. Go next rest lv (record m {
        statics = x;
      })) (λ x h. λ all. all))

  pub new_makes : (set : Classes Class Field StaticCell (List Image)) (c : Class) → program.made c ≡ true
      → (room next : ℕ) (lv : List (Option Value)) (vs : List Value) → Makes (effect set (New c) room next lv m vs)
  new_makes set c is room next lv vs = some_makes Stick tt (set.fresh c) (λ slots. made (Object c slots) room next lv m
      vs) (λ slots h. go slots (nat_le (suc (length vs)) room))
    where
      go : (slots : List (Slot Field)) (b : Bool) → Makes (if b then Go next (Obj (length m.heap) ∷ vs) lv (record m {
        heap = m.heap ++ Object c slots ∷ [];
      }) else Stick)
      go slots true = λ all. pushed_made (Object c slots) is all
      go slots false = tt
