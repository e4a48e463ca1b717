-- What an instruction does to its frame, the heap and the static cells. The machine by token and the machine of narrow
-- code share it: classes, fields, static cells and methods are named in any way, places are numbers of any kind, and
-- the static cells are kept in any way.
use Rattle.std.specs.Prelude.{ℕ, List, [], ◌∷◌, ◌++◌, length, replicate, Option, Some, None, Bool, true, false, nat_le}
use Rattle.std.specs.Prelude.{if◌then◌else◌, slice_get, slice_set, ℤ, pos, negsuc}
use Rattle.std.specs.Int.RustNames.{int_le}
use Rattle.cjc_range.specs.Words.{low_word, low_byte}
use Rattle.cjc_script.specs.declared.value.Value.{Value}
use Rattle.cjc_script.specs.declared.value.Value.TheVariants.{Num, Null, Obj}
use Rattle.cjc_script.specs.Sorts.{Element, Booleans, Bytes, Shorts, Ints, Shape, OfClass, OfNumbers, OfReferences}
use Rattle.cjc_card_semantics.specs.Bytecode.Numbers.{spelt_by, is_word}
use Rattle.cjc_card_semantics.specs.Bytecode.Calculations.{Fault, NullPointer, IndexOutside, NegativeSize, ClassCast}
use Rattle.cjc_card_semantics.specs.Bytecode.Calculations.{ArrayStore, Result, Fine, Fails, Wrong, Calculation, Choice}
use Rattle.cjc_card_semantics.specs.Bytecode.Calculations.{Takes, Neither, Test, one_number, one_value, one_int}
use Rattle.cjc_card_semantics.specs.Bytecode.Calculations.{int_words}

-- what an instruction moves, by the letter of its name: a, b, s, i
pub data Letter : Type 0 where
  Reference : Letter
  Byte : Letter
  Short : Letter
  Int : Letter

-- instructions that see the heap and no name
pub data Access : Type 0 where
  Load : (letter : Letter) → Access
  Store : (letter : Letter) → Access
  Length : Access
  Throw : Access
  Return : (letter : Option Letter) → Access

-- a case of a switch
pub record Arm : Type 0 where
  pub value : ℤ
  pub to : ℕ

-- ---- the heap

-- what an object holds under a key: a whole number, null or an object
pub record Slot (F : Type 0) : Type 0 where
  pub key : F
  pub value : Value

-- an array of numbers or of references, or an object
pub data HeapObject (C F : Type 0) : Type 0 where
  Numbers : (element : Element) (items : List ℤ) → HeapObject C F
  References : (class : C) (items : List Value) → HeapObject C F
  Object : (class : C) (slots : List (Slot F)) → HeapObject C F

-- the type of an array or object
abbrev pub shape : {C F : Type 0} → HeapObject C F → Shape C
shape (Numbers element items) = OfNumbers element
shape (References class items) = OfReferences class
shape (Object class slots) = OfClass class

-- arrays and objects in order of creation, and the static cells
pub record Memory (C F X : Type 0) : Type 0 where
  pub heap : List (HeapObject C F)
  pub statics : X

-- ---- what instructions ask of the classes

-- the classes, as instructions ask of them
pub record Classes (C F S X : Type 0) : Type 0 where
  -- one type is of another
  pub is_of : Shape C → Shape C → Bool
  pub same_field : F → F → Bool
  -- what a new object holds; None where no object is made of the class
  pub fresh : C → Option (List (Slot F))
  pub get_static : Letter → S → X → Option Value
  pub put_static : Letter → S → Value → X → Option X

-- ---- instructions whose operands are resolved

-- an instruction with what its operands name
pub data Operation (C F S M : Type 0) : Type 0 where
  Do : (calculation : Calculation) → Operation C F S M
  Branch : (test : Test) (to : ℕ) → Operation C F S M
  -- by a word, or by an int
  Pick : (is_int : Bool) (other : ℕ) (arms : List Arm) → Operation C F S M
  Touch : (access : Access) → Operation C F S M
  -- of the object on the stack, or of local 0
  Get : (this : Bool) (letter : Letter) (field : F) → Operation C F S M
  Put : (this : Bool) (letter : Letter) (field : F) → Operation C F S M
  GetStatic : (letter : Letter) (cell : S) → Operation C F S M
  PutStatic : (letter : Letter) (cell : S) → Operation C F S M
  Call : (method : M) → Operation C F S M
  New : (class : C) → Operation C F S M
  NewNumbers : (element : Element) → Operation C F S M
  NewReferences : (class : C) → Operation C F S M
  Cast : (shape : Shape C) → Operation C F S M
  Ask : (shape : Shape C) → Operation C F S M
  Undone : Operation C F S M

-- what it asks of the machine
pub data Effect (C F M X : Type 0) : Type 0 where
  Go : (at : ℕ) (stack : List Value) (locals : List (Option Value)) (memory : Memory C F X) → Effect C F M X
  Raise : (fault : Fault) → Effect C F M X
  Toss : (object : ℕ) → Effect C F M X
  Invoke : (method : M) → Effect C F M X
  -- the words of a result, the deepest first
  Leave : (words : List Value) → Effect C F M X
  Stick : Effect C F M X

-- ---- cells and words

-- null or an object on top of the stack
abbrev pub one_reference : {A : Type 0} → A → List Value → (Value → List Value → A) → A
one_reference stuck (Null ∷ stack) go = go Null stack
one_reference stuck (Obj k ∷ stack) go = go (Obj k) stack
one_reference stuck stack go = stuck

-- what is taken from the stack for a field, a static cell or an element; a byte keeps eight bits, and a short the word
-- that it is
abbrev pub operand : {A : Type 0} → Letter → A → List Value → (Value → List Value → A) → A
operand Reference stuck stack go = one_reference stuck stack go
operand Byte stuck stack go = one_number stuck stack (λ x rest. go (Num (low_byte x)) rest)
operand Short stuck stack go = one_number stuck stack (λ x rest. go (Num (low_word x)) rest)
operand Int stuck stack go = one_int stuck stack (λ z rest. go (Num z) rest)

-- what an operand of a letter can be
pub data IsOperand : Letter → Value → Type 0 where
  a_null : IsOperand Reference Null
  an_object : {k : ℕ} → IsOperand Reference (Obj k)
  a_byte : (x : ℤ) → IsOperand Byte (Num (low_byte x))
  a_short : (x : ℤ) → IsOperand Short (Num (low_word x))
  an_int : (high low : ℤ) → IsOperand Int (Num (spelt_by high low))

-- one word, where the number has 16 bits
abbrev pub word_of : {A : Type 0} → ℤ → A → (List Value → A) → A
word_of z stuck go = if is_word z then go (Num z ∷ []) else stuck

-- what is held as words on the stack, where it is of the letter's kind: an int is any number
abbrev pub words_of : {A : Type 0} → Letter → Value → A → (List Value → A) → A
words_of Reference Null stuck go = go (Null ∷ [])
words_of Reference (Obj k) stuck go = go (Obj k ∷ [])
words_of Byte (Num z) stuck go = word_of z stuck go
words_of Short (Num z) stuck go = word_of z stuck go
words_of Int (Num z) stuck go = go (int_words z)
words_of letter value stuck go = stuck

-- both are numbers, or both are references
abbrev pub same_kind : Value → Value → Bool
same_kind (Num x) (Num y) = true
same_kind Null Null = true
same_kind Null (Obj k) = true
same_kind (Obj j) Null = true
same_kind (Obj j) (Obj k) = true
same_kind a b = false

-- the letter of an array's elements; baload and bastore serve bytes and booleans
abbrev pub is_element : Letter → Element → Bool
is_element Byte Booleans = true
is_element Byte Bytes = true
is_element Short Shorts = true
is_element Int Ints = true
is_element letter element = false

-- what is held under a key, and the slots with another value under it
abbrev pub slot_of : {F : Type 0} → (F → F → Bool) → List (Slot F) → F → Option Value
slot_of same [] f = None
slot_of same (s ∷ slots) f = if same s.key f then Some s.value else slot_of same slots f

-- the slots with another value under a key
abbrev pub slots_with : {F : Type 0} → (F → F → Bool) → List (Slot F) → F → Value → List (Slot F)
slots_with same [] f v = []
slots_with same (s ∷ slots) f v = if same s.key f then record s { value = v } ∷ slots else s ∷ slots_with same slots f v

-- where a switch leads
abbrev pub arm_of : (other : ℕ) → List Arm → ℤ → ℕ
arm_of other [] x = other
arm_of other (arm ∷ arms) x =
    if int_le arm.value x then (if int_le x arm.value then arm.to else arm_of other arms x) else arm_of other arms x

-- what an option holds, or else
abbrev pub with_some : {A B : Type 0} → B → Option A → (A → B) → B
with_some otherwise None go = otherwise
with_some otherwise (Some x) go = go x

-- the item at an index
abbrev pub item_at : {A B : Type 0} → (outside : B) → List A → ℤ → (ℕ → A → B) → B
item_at outside items (pos i) go = with_some outside (slice_get items i) (go i)
item_at outside items (negsuc i) go = outside

-- the words of a result, the deepest first
abbrev pub result_words : {A : Type 0} → Letter → A → List Value → (List Value → A) → A
result_words Reference stuck stack go = one_reference stuck stack (λ v rest. go (v ∷ []))
result_words Byte stuck stack go = one_number stuck stack (λ x rest. go (Num x ∷ []))
result_words Short stuck stack go = one_number stuck stack (λ x rest. go (Num x ∷ []))
result_words Int stuck (Num low ∷ Num high ∷ rest) go = go (Num high ∷ Num low ∷ [])
result_words Int stuck stack go = stuck

-- ---- one instruction, where `next` is the place behind it

module _ {C F M X : Type 0} where
  -- what a calculation leads to
  abbrev pub effect_of_result : Result → (next : ℕ) → Memory C F X → Effect C F M X
  effect_of_result (Fine stack locals) next m = Go next stack locals m
  effect_of_result (Fails fault) next m = Raise fault
  effect_of_result Wrong next m = Stick

  -- where a condition leads
  abbrev pub chosen : Choice → (to next : ℕ) → List (Option Value) → Memory C F X → Effect C F M X
  chosen (Takes true rest) to next locals m = Go to rest locals m
  chosen (Takes false rest) to next locals m = Go next rest locals m
  chosen Neither to next locals m = Stick

  -- goes on with these words more, where the stack has room
  abbrev pub onward : List Value → (room next : ℕ) → List (Option Value) → Memory C F X → List Value → Effect C F M X
  onward words room next locals m rest =
      if nat_le (length (words ++ rest)) room then Go next (words ++ rest) locals m else Stick

  -- the array or object of a reference
  abbrev pub thing_of : List (HeapObject C F) → Value → (ℕ → HeapObject C F → Effect C F M X) → Effect C F M X
  thing_of heap (Num x) go = Stick
  thing_of heap Null go = Raise NullPointer
  thing_of heap (Obj k) go = with_some Stick (slice_get heap k) (go k)

  -- an object's class and slots
  abbrev pub object_in : (C → List (Slot F) → Effect C F M X) → HeapObject C F → Effect C F M X
  object_in go (Object class slots) = go class slots
  object_in go (Numbers element items) = Stick
  object_in go (References class items) = Stick

  -- an array of numbers of the letter
  abbrev pub numbers_in : Letter → (Element → List ℤ → Effect C F M X) → HeapObject C F → Effect C F M X
  numbers_in letter go (Numbers element items) = if is_element letter element then go element items else Stick
  numbers_in letter go (References class items) = Stick
  numbers_in letter go (Object class slots) = Stick

  -- an array of references
  abbrev pub references_in : (C → List Value → Effect C F M X) → HeapObject C F → Effect C F M X
  references_in go (References class items) = go class items
  references_in go (Numbers element items) = Stick
  references_in go (Object class slots) = Stick

  -- how many elements an array has
  abbrev pub length_in : (ℕ → Effect C F M X) → HeapObject C F → Effect C F M X
  length_in go (Numbers element items) = go (length items)
  length_in go (References class items) = go (length items)
  length_in go (Object class slots) = Stick

  -- the object of this reference is thrown; null raises
  abbrev pub thrown : Value → Effect C F M X
  thrown (Num x) = Stick
  thrown Null = Raise NullPointer
  thrown (Obj k) = Toss k

  -- the words of a result, by its letter
  abbrev pub returned : Option Letter → List Value → Effect C F M X
  returned None stack = Leave []
  returned (Some letter) stack = result_words letter Stick stack (λ words. Leave words)

  -- the reference on the stack, or local 0
  abbrev pub receiver : (this : Bool) → List (Option Value) → List Value → (Value → List Value → Effect C F M X)
      → Effect C F M X
  receiver false locals stack go = one_value Stick stack go
  receiver true locals stack go = with_some Stick (slice_get locals 0) (λ o. with_some Stick o (λ v. go v stack))

  -- a number of elements that is not negative
  abbrev pub sized : ℤ → (ℕ → Effect C F M X) → Effect C F M X
  sized (pos n) go = go n
  sized (negsuc n) go = Raise NegativeSize

  -- the number of elements, by the word on the stack
  abbrev pub counted : List Value → (ℕ → List Value → Effect C F M X) → Effect C F M X
  counted stack go = one_number Stick stack (λ n rest. sized n (λ k. go k rest))

  -- a new array or object, and its reference
  abbrev pub made : HeapObject C F → (room next : ℕ) → List (Option Value) → Memory C F X → List Value → Effect C F M X
  made thing room next locals m rest =
      onward (Obj (length m.heap) ∷ []) room next locals (record m { heap = m.heap ++ thing ∷ [] }) rest

-- 1 or 0
abbrev pub truth : Bool → ℤ
truth true = pos 1
truth false = pos 0

-- what an array of numbers keeps of a value
abbrev pub item_of : Value → ℤ
item_of (Num z) = z
item_of v = pos 0

-- another array or object in a place of the heap
abbrev pub with_thing : {C F X : Type 0} → Memory C F X → ℕ → HeapObject C F → Memory C F X
with_thing m k thing = record m { heap = slice_set m.heap k thing }

module _ {C F S M X : Type 0} (classes : Classes C F S X) where
  -- may this value be kept in an array of this class
  abbrev pub kept : List (HeapObject C F) → C → Value → Effect C F M X → Effect C F M X
  kept heap class (Num x) effect = Stick
  kept heap class Null effect = effect
  kept heap class (Obj k) effect =
      with_some Stick (slice_get heap k) (λ thing. if classes.is_of (shape thing) (OfClass class) then effect
      else Raise ArrayStore)

  -- aaload
  abbrev pub load_reference_item : (room next : ℕ) → List (Option Value) → Memory C F X → List Value → Effect C F M X
  load_reference_item room next locals m stack =
      one_number Stick stack (λ i below. one_value Stick below (λ r rest. thing_of m.heap r
      (λ k. references_in (λ class items.
      item_at (Raise IndexOutside) items i (λ n v. onward (v ∷ []) room next locals m rest)))))

  -- baload, saload, iaload
  abbrev pub load_number : Letter → (room next : ℕ) → List (Option Value) → Memory C F X → List Value → Effect C F M X
  load_number letter room next locals m stack =
      one_number Stick stack (λ i below. one_value Stick below (λ r rest. thing_of m.heap r (λ k. numbers_in letter
      (λ element items.
      item_at (Raise IndexOutside) items i (λ n x. words_of letter (Num x) Stick (λ words. onward words room next locals
      m rest))))))

  -- an element is pushed
  abbrev pub loaded : Letter → (room next : ℕ) → List (Option Value) → Memory C F X → List Value → Effect C F M X
  loaded Reference = load_reference_item
  loaded Byte = load_number Byte
  loaded Short = load_number Short
  loaded Int = load_number Int

  -- aastore
  abbrev pub store_reference : (next : ℕ) → List (Option Value) → Memory C F X → List Value → Effect C F M X
  store_reference next locals m stack =
      one_reference Stick stack (λ v under. one_number Stick under (λ i below. one_value Stick below (λ r rest.
      thing_of m.heap r (λ k. references_in (λ class items. item_at (Raise IndexOutside) items i (λ n old.
      kept m.heap class v (Go next rest locals (with_thing m k (References class (slice_set items n v))))))))))

  -- bastore, sastore, iastore
  abbrev pub store_number : Letter → (next : ℕ) → List (Option Value) → Memory C F X → List Value → Effect C F M X
  store_number letter next locals m stack =
      operand letter Stick stack (λ v under. one_number Stick under (λ i below. one_value Stick below (λ r rest.
      thing_of m.heap r (λ k. numbers_in letter (λ element items. item_at (Raise IndexOutside) items i (λ n old.
      Go next rest locals (with_thing m k (Numbers element (slice_set items n (item_of v))))))))))

  -- an element is replaced
  abbrev pub stored : Letter → (next : ℕ) → List (Option Value) → Memory C F X → List Value → Effect C F M X
  stored Reference = store_reference
  stored Byte = store_number Byte
  stored Short = store_number Short
  stored Int = store_number Int

  -- what sees the heap and no name
  abbrev pub effect_of_access : Access → (room next : ℕ) → List (Option Value) → Memory C F X → List Value
      → Effect C F M X
  effect_of_access (Load letter) room next locals m stack = loaded letter room next locals m stack
  effect_of_access (Store letter) room next locals m stack = stored letter next locals m stack
  effect_of_access Length room next locals m stack =
      one_value Stick stack (λ r rest. thing_of m.heap r (λ k. length_in (λ n. Go next (Num (low_word (pos n)) ∷ rest)
      locals m)))
  effect_of_access Throw room next locals m stack = one_value Stick stack (λ r rest. thrown r)
  effect_of_access (Return letter) room next locals m stack = returned letter stack

  -- whether the object of a reference is of a type
  abbrev pub cast_of : Shape C → List (HeapObject C F) → Value → (Bool → Effect C F M X) → Effect C F M X
  cast_of target heap (Num x) go = Stick
  cast_of target heap Null go = Stick
  cast_of target heap (Obj k) go = with_some Stick (slice_get heap k) (λ thing. go (classes.is_of (shape thing) target))

  -- checkcast
  abbrev pub cast : Shape C → (next : ℕ) → List (Option Value) → Memory C F X → List Value → Effect C F M X
  cast target next locals m [] = Stick
  cast target next locals m (Null ∷ rest) = Go next (Null ∷ rest) locals m
  cast target next locals m (v ∷ rest) =
      cast_of target m.heap v (λ t. if t then Go next (v ∷ rest) locals m else Raise ClassCast)

  -- instanceof
  abbrev pub asked : Shape C → (next : ℕ) → List (Option Value) → Memory C F X → List Value → Effect C F M X
  asked target next locals m [] = Stick
  asked target next locals m (Null ∷ rest) = Go next (Num (pos 0) ∷ rest) locals m
  asked target next locals m (v ∷ rest) =
      cast_of target m.heap v (λ t. Go next (Num (truth t) ∷ rest) locals m)

  -- a slot that is there and of the same kind
  abbrev pub put_slot : Option Value → Value → Effect C F M X → Effect C F M X
  put_slot None new effect = Stick
  put_slot (Some old) new effect = if same_kind old new then effect else Stick

  -- What an operation asks of the machine, where `room` is the greatest height of the stack and `next` the place behind
  -- it.
  abbrev pub effect : Operation C F S M → (room next : ℕ) (locals : List (Option Value)) (m : Memory C F X) → List Value
      → Effect C F M X
  effect (Do calculation) room next locals m stack = effect_of_result (calculation room locals stack) next m
  effect (Branch test to) room next locals m stack = chosen (test stack) to next locals m
  effect (Pick false other arms) room next locals m stack =
      one_number Stick stack (λ x rest. Go (arm_of other arms x) rest locals m)
  effect (Pick true other arms) room next locals m stack =
      one_int Stick stack (λ x rest. Go (arm_of other arms x) rest locals m)
  effect (Touch access) room next locals m stack = effect_of_access access room next locals m stack
  effect (Get this letter f) room next locals m stack =
      receiver this locals stack (λ r rest. thing_of m.heap r (λ k. object_in (λ class slots.
      with_some Stick (slot_of classes.same_field slots f) (λ v. words_of letter v Stick (λ words. onward words room
      next locals m rest)))))
  effect (Put this letter f) room next locals m stack =
      operand letter Stick stack (λ v below. receiver this locals below (λ r rest. thing_of m.heap r
      (λ k. object_in (λ class slots.
      put_slot (slot_of classes.same_field slots f) v
      (Go next rest locals (with_thing m k (Object class (slots_with classes.same_field slots f v))))))))
  effect (GetStatic letter s) room next locals m stack =
      with_some Stick (classes.get_static letter s m.statics) (λ v. words_of letter v Stick (λ words. onward words room
      next locals m stack))
  effect (PutStatic letter s) room next locals m stack =
      operand letter Stick stack (λ v rest. with_some Stick (classes.put_static letter s v m.statics)
      (λ x. Go next rest locals (record m { statics = x })))
  effect (Call method) room next locals m stack = Invoke method
  effect (New class) room next locals m stack =
      with_some Stick (classes.fresh class) (λ slots. made (Object class slots) room next locals m stack)
  effect (NewNumbers element) room next locals m stack =
      counted stack (λ n rest. made (Numbers element (replicate n (pos 0))) room next locals m rest)
  effect (NewReferences class) room next locals m stack =
      counted stack (λ n rest. made (References class (replicate n Null)) room next locals m rest)
  effect (Cast target) room next locals m stack = cast target next locals m stack
  effect (Ask target) room next locals m stack = asked target next locals m stack
  effect Undone room next locals m stack = Stick
