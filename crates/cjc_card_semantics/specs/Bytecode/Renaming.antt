-- The same deeds, stores and acts under other names and places, and what two ways to name have to agree on.
use Rattle.std.specs.Prelude.{◌≡◌, ℕ, List, [], ◌∷◌, map, Option, Some, None, ℤ}
use Rattle.cjc_script.specs.declared.value.Value.{Value}
use Rattle.cjc_script.specs.Sorts.{Element, Shape, OfClass, OfNumbers, OfReferences}
use Rattle.cjc_card_semantics.specs.Bytecode.Effects.{Letter, IsOperand, Arm, Slot, HeapObject, Numbers, References}
use Rattle.cjc_card_semantics.specs.Bytecode.Effects.{Object, slot_of, slots_with, Memory, Classes, Operation, Do}
use Rattle.cjc_card_semantics.specs.Bytecode.Effects.{Branch, Pick, Touch, Get, Put, GetStatic, PutStatic, Call, New}
use Rattle.cjc_card_semantics.specs.Bytecode.Effects.{NewNumbers, NewReferences, Cast, Ask, Undone, Effect, Go, Raise}
use Rattle.cjc_card_semantics.specs.Bytecode.Effects.{Toss, Invoke, Leave, Stick}

-- what is there, on the other side
abbrev pub option_as : {A B : Type 0} → (A → B) → Option A → Option B
option_as f None = None
option_as f (Some x) = Some (f x)

-- a type on the other side
abbrev pub shape_as : {C D : Type 0} → (C → D) → Shape C → Shape D
shape_as class (OfClass c) = OfClass (class c)
shape_as class (OfNumbers element) = OfNumbers element
shape_as class (OfReferences c) = OfReferences (class c)

-- a case at its place on the other side
abbrev pub arm_as : (ℕ → ℕ) → Arm → Arm
arm_as to arm = record { value = arm.value; to = to arm.to }

-- what an object holds is told anew for its class
module _ {C F D G : Type 0} (class : C → D) (slots : C → List (Slot F) → List (Slot G)) where
  -- an array or object on the other side
  abbrev pub heap_object_as : HeapObject C F → HeapObject D G
  heap_object_as (Numbers element items) = Numbers element items
  heap_object_as (References c items) = References (class c) items
  heap_object_as (Object c held) = Object (class c) (slots c held)

module _ {C F X D G Y : Type 0} (class : C → D) (slots : C → List (Slot F) → List (Slot G)) (statics : X → Y) where
  -- heap and static cells on the other side
  abbrev pub memory_as : Memory C F X → Memory D G Y
  memory_as m = record { heap = map (heap_object_as class slots) m.heap; statics = statics m.statics }

module _ {C F S M D G T N : Type 0} (class : C → D) (field : F → G) (cell : S → T) (method : M → N) (to : ℕ → ℕ) where
  -- an operation on the other side
  abbrev pub operation_as : Operation C F S M → Operation D G T N
  operation_as (Do calculation) = Do calculation
  operation_as (Branch test place) = Branch test (to place)
  operation_as (Pick is_int other arms) = Pick is_int (to other) (map (arm_as to) arms)
  operation_as (Touch access) = Touch access
  operation_as (Get this letter f) = Get this letter (field f)
  operation_as (Put this letter f) = Put this letter (field f)
  operation_as (GetStatic letter s) = GetStatic letter (cell s)
  operation_as (PutStatic letter s) = PutStatic letter (cell s)
  operation_as (Call m) = Call (method m)
  operation_as (New c) = New (class c)
  operation_as (NewNumbers element) = NewNumbers element
  operation_as (NewReferences c) = NewReferences (class c)
  operation_as (Cast s) = Cast (shape_as class s)
  operation_as (Ask s) = Ask (shape_as class s)
  operation_as Undone = Undone

module _ {C F M X D G N Y : Type 0} (class : C → D) (slots : C → List (Slot F) → List (Slot G)) (method : M
    → N) (statics : X → Y) (to : ℕ → ℕ) where
  -- an effect on the other side
  abbrev pub effect_as : Effect C F M X → Effect D G N Y
  effect_as (Go at stack locals m) = Go (to at) stack locals (memory_as class slots statics m)
  effect_as (Raise fault) = Raise fault
  effect_as (Toss object) = Toss object
  effect_as (Invoke m) = Invoke (method m)
  effect_as (Leave words) = Leave words
  effect_as Stick = Stick

-- ---- what is known of names

-- which names are known, and which static cells are as they can be
pub record Knows (C F S X : Type 0) : Type 1 where
  pub class : C → Type 0
  pub field : F → Type 0
  -- a static cell, read and put as what it is
  pub cell : Letter → S → Type 0
  pub statics : X → Type 0
  -- a class with the fields of its objects
  pub object : C → List F → Type 0

-- under which keys an object holds something
abbrev pub keys : {F : Type 0} → List (Slot F) → List F
keys slots = map (λ s. s.key) slots

module _ {C F S X : Type 0} (known : Knows C F S X) where
  -- the class of a type is known
  abbrev pub KnownShape : Shape C → Type 0
  KnownShape (OfClass c) = known.class c
  KnownShape (OfNumbers element) = Unit {0}
  KnownShape (OfReferences c) = known.class c

  -- the class is known, and an object of it has its keys
  pub data KnownHeapObject : HeapObject C F → Type 0 where
    numbers_known : {element : Element} {items : List ℤ} → KnownHeapObject (Numbers element items)
    references_known : {c : C} {items : List Value} → known.class c → KnownHeapObject (References c items)
    object_known : {c : C} {slots : List (Slot F)} → known.class c → known.object c (keys slots)
        → KnownHeapObject (Object c slots)

  -- each array and object is known
  pub data KnownHeap : List (HeapObject C F) → Type 0 where
    no_things : KnownHeap []
    one_thing : {t : HeapObject C F} {ts : List (HeapObject C F)} → KnownHeapObject t → KnownHeap ts
        → KnownHeap (t ∷ ts)

  -- heap and static cells are known
  pub record KnownMemory (m : Memory C F X) : Type 0 where
    pub heap : KnownHeap m.heap
    pub statics : known.statics m.statics

module _ {C F S X M : Type 0} (known : Knows C F S X) (KnownMethod : M → Type 0) where
  -- what an operation names is known
  abbrev pub KnownOperation : Operation C F S M → Type 0
  KnownOperation (Do calculation) = Unit {0}
  KnownOperation (Branch test to) = Unit {0}
  KnownOperation (Pick is_int other arms) = Unit {0}
  KnownOperation (Touch access) = Unit {0}
  KnownOperation (Get this letter f) = known.field f
  KnownOperation (Put this letter f) = known.field f
  KnownOperation (GetStatic letter s) = known.cell letter s
  KnownOperation (PutStatic letter s) = known.cell letter s
  KnownOperation (Call m) = KnownMethod m
  KnownOperation (New c) = known.class c
  KnownOperation (NewNumbers element) = Unit {0}
  KnownOperation (NewReferences c) = known.class c
  KnownOperation (Cast s) = KnownShape known s
  KnownOperation (Ask s) = KnownShape known s
  KnownOperation Undone = Unit {0}

  -- what an effect leaves
  abbrev pub KnownEffect : Effect C F M X → Type 0
  KnownEffect (Go at stack locals m) = KnownMemory known m
  KnownEffect (Raise fault) = Unit {0}
  KnownEffect (Toss object) = Unit {0}
  KnownEffect (Invoke m) = KnownMethod m
  KnownEffect (Leave words) = Unit {0}
  KnownEffect Stick = Unit {0}

module _ {C F S X D G T Y : Type 0} (known : Knows C F S X) (class : C → D) (field : F → G) (slots : C → List (Slot F)
    → List (Slot G)) (cell : S → T) (statics : X → Y) where
  -- of a class of which the first makes no object, the second makes none
  abbrev pub UnmadeAlike : Classes C F S X → Classes D G T Y → Type 0
  UnmadeAlike classes classes' = (c : C) → known.class c → classes.fresh c ≡ None → classes'.fresh (class c) ≡ None

  -- Two sets of classes, under known names: what each asks is the same.
  pub record AreAlike (classes : Classes C F S X) (classes' : Classes D G T Y) : Type 0 where
    pub is_of : (a b : Shape C) → KnownShape known a → KnownShape known b
        → classes'.is_of (shape_as class a) (shape_as class b) ≡ classes.is_of a b
    -- what an object holds under a field, and with another value under one that it has
    pub get : (c : C) (held : List (Slot F)) (f : F) → known.object c (keys held) → known.field f
        → slot_of classes'.same_field (slots c held) (field f) ≡ slot_of classes.same_field held f
    pub put : (c : C) (held : List (Slot F)) (f : F) (old new : Value) → known.object c (keys held) → known.field f
        → slot_of classes.same_field held f ≡ Some old → slots_with classes'.same_field (slots c held) (field f) new
        ≡ slots c (slots_with classes.same_field held f new)
    -- where the first makes objects of a class
    pub fresh : (c : C) (held : List (Slot F)) → known.class c → classes.fresh c ≡ Some held → classes'.fresh (class c)
        ≡ Some (slots c held)
    pub fresh_known : (c : C) (held : List (Slot F)) → known.class c → classes.fresh c ≡ Some held
        → KnownHeapObject known (Object c held)
    -- an object without fields
    pub bare : (c : C) → known.object c [] → slots c [] ≡ []
    pub get_static : (letter : Letter) (s : S) (x : X) → known.cell letter s → known.statics x
        → classes'.get_static letter (cell s) (statics x) ≡ classes.get_static letter s x
    pub put_static : (letter : Letter) (s : S) (v : Value) (x : X) → IsOperand letter v → known.cell letter s
        → known.statics x → classes'.put_static letter (cell s) v (statics x)
        ≡ option_as statics (classes.put_static letter s v x)
    pub put_known : (letter : Letter) (s : S) (v : Value) (x y : X) → IsOperand letter v → known.cell letter s
        → known.statics x → classes.put_static letter s v x ≡ Some y → known.statics y
