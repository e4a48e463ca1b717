-- What one instruction of a class file asks of the machine (Java Virtual Machine Specification, 6.5). A cell is a
-- number of
-- 32 bits, null or an object. It knows nothing of other frames, of entries, answers and notes.
use Rattle.std.specs.Prelude.{ℕ, suc, ◌+◌, List, [], ◌∷◌, ◌++◌, map, length, take, drop, replicate, Option, Some, None}
use Rattle.std.specs.Prelude.{Bool, true, false, not, nat_lt, nat_le, ◌==◌, ◌&&◌, if◌then◌else◌, slice_get, slice_set}
use Rattle.std.specs.Prelude.{ℤ, pos, negsuc, ◌+ℤ◌, ◌-ℤ◌, codes}
use Rattle.std.specs.Str.{bytes_eq}
use Rattle.cjc_code.specs.Bytes.declared.fault.MemberId.{MemberId}
use Rattle.cjc_code.specs.Range.Words.{wide, low_word, low_byte}
use Rattle.cjc_code.specs.declared.insn.JInsn.{JInsn}
use Rattle.cjc_code.specs.declared.insn.JCase.{JCase}
use Rattle.cjc_code.specs.declared.insn.JOp.{JOp}
use Rattle.cjc_code.specs.declared.insn.JOp.TheVariants as jop
use Rattle.cjc_code.specs.Jvm as jvm
use Rattle.cjc_script.specs.declared.value.Value.{Value}
use Rattle.cjc_script.specs.declared.value.Value.TheVariants.{Num, Null, Obj}
use Rattle.cjc_script.specs.declared.report.FieldValue.{FieldValue}
use Rattle.cjc_script.specs.declared.report.Thing.{Thing}
use Rattle.cjc_script.specs.declared.report.Thing.TheVariants.{Array, Object}
use Rattle.cjc_script.specs.Sorts.{Element, Booleans, Bytes, Shorts, Ints, Shape, OfClass, OfNumbers, OfReferences}
use Rattle.cjc_script.specs.Sorts.{shape_named, shape_name, array_name, field_sort, zero_of}
use Rattle.cjc_jvm_semantics.specs.Arithmetic.{is_zero, is_same, Operation, Gives, Divides, Neither, operation}
use Rattle.cjc_jvm_semantics.specs.Arithmetic.{negation, Condition, OfNumber, OfNumbers as OfTwo, AreSame, IsNull}
use Rattle.cjc_jvm_semantics.specs.Arithmetic.{Nothing, condition}
use Rattle.cjc_jvm_semantics.specs.Linked.{Method, ResolvedField, Constant, Static, Instance, Linked}

-- ---- exceptions of the machine's own

-- zero divisor, null, index outside, negative count, failed cast, wrong element class
pub data Fault : Type 0 where
  Arithmetic : Fault
  NullPointer : Fault
  IndexOutside : Fault
  NegativeSize : Fault
  ClassCast : Fault
  ArrayStore : Fault

-- the class of each
abbrev pub exception_class : Fault → List ℕ
exception_class Arithmetic = codes "java/lang/ArithmeticException"
exception_class NullPointer = codes "java/lang/NullPointerException"
exception_class IndexOutside = codes "java/lang/ArrayIndexOutOfBoundsException"
exception_class NegativeSize = codes "java/lang/NegativeArraySizeException"
exception_class ClassCast = codes "java/lang/ClassCastException"
exception_class ArrayStore = codes "java/lang/ArrayStoreException"

-- ---- the heap and the static cells

-- arrays and objects in order of creation, and the static cells
pub record Store : Type 0 where
  pub heap : List Thing
  pub statics : List FieldValue

-- the class of an object, the descriptor of an array
abbrev pub type_of : Thing → List ℕ
type_of (Array desc items) = desc
type_of (Object class fields) = class

-- one field is another: by class, name and descriptor
abbrev pub is_same_field : MemberId → MemberId → Bool
is_same_field a b = bytes_eq a.class b.class && bytes_eq a.name b.name && bytes_eq a.desc b.desc

-- what a field holds
abbrev pub value_in : List FieldValue → MemberId → Option Value
value_in [] f = None
value_in (v ∷ values) f = if is_same_field v.field f then Some v.value else value_in values f

-- the fields with another value in one
abbrev pub values_with : List FieldValue → MemberId → Value → List FieldValue
values_with [] f new = []
values_with (v ∷ values) f new = if is_same_field v.field f then record v { value = new } ∷ values
    else v ∷ values_with values f new

-- a field of a new object: 0 or null
abbrev pub fresh_field : MemberId → FieldValue
fresh_field f = record { field = f; value = zero_of (field_sort f.desc) }

-- ---- effects

-- to go on at a place of the method's list of instructions, to raise an exception of the machine's own, to throw an
-- array
-- or object, to call, to return, or nothing that applies
pub data Effect : Type 0 where
  Go : (at : ℕ) (stack : List Value) (locals : List (Option Value)) (store : Store) → Effect
  Raise : (fault : Fault) → Effect
  Toss : (object : ℕ) → Effect
  Invoke : (op : ℕ) (method : MemberId) → Effect
  Leave : (value : Option Value) → Effect
  Stick : Effect

-- what an option holds, or nothing that applies
abbrev pub with_some : {A : Type 0} → Option A → (A → Effect) → Effect
with_some None go = Stick
with_some (Some x) go = go x

-- a condition without which nothing applies
abbrev pub only_if : Bool → Effect → Effect
only_if true effect = effect
only_if false effect = Stick

-- ---- operands

-- a reference, or a number
abbrev pub is_kind : (refs : Bool) → Value → Bool
is_kind false (Num x) = true
is_kind true Null = true
is_kind true (Obj k) = true
is_kind refs v = false

-- both are numbers, or both are references
abbrev pub is_same_kind : Value → Value → Bool
is_same_kind (Num x) v = is_kind false v
is_same_kind Null v = is_kind true v
is_same_kind (Obj k) v = is_kind true v

-- the top of the stack
abbrev pub one_value : List Value → (Value → List Value → Effect) → Effect
one_value [] go = Stick
one_value (v ∷ rest) go = go v rest

-- a number on top of the stack
abbrev pub one_number : List Value → (ℤ → List Value → Effect) → Effect
one_number (Num x ∷ rest) go = go x rest
one_number stack go = Stick

-- two numbers, the upper one last
abbrev pub two_numbers : List Value → (ℤ → ℤ → List Value → Effect) → Effect
two_numbers (Num y ∷ Num x ∷ rest) go = go x y rest
two_numbers stack go = Stick

-- what a local holds, where it is set
abbrev pub local_value : Option (Option Value) → (Value → Effect) → Effect
local_value (Some (Some v)) go = go v
local_value o go = Stick

-- the array or object of a reference; null raises
abbrev pub thing_at : List Thing → Value → (ℕ → Thing → Effect) → Effect
thing_at heap (Num x) go = Stick
thing_at heap Null go = Raise NullPointer
thing_at heap (Obj k) go = with_some (slice_get heap k) (go k)

-- an array's descriptor and items
abbrev pub array_in : Thing → (List ℕ → List Value → Effect) → Effect
array_in (Array desc items) go = go desc items
array_in (Object class fields) go = Stick

-- an object's class and fields
abbrev pub object_in : Thing → (List ℕ → List FieldValue → Effect) → Effect
object_in (Array desc items) go = Stick
object_in (Object class fields) go = go class fields

-- the item at an index; one outside raises
abbrev pub item_if : Option Value → (Value → Effect) → Effect
item_if None go = Raise IndexOutside
item_if (Some v) go = go v

-- the same, with its place
abbrev pub item_at : List Value → ℤ → (ℕ → Value → Effect) → Effect
item_at items (pos i) go = item_if (slice_get items i) (go i)
item_at items (negsuc i) go = Raise IndexOutside

-- a number of elements that is not negative
abbrev pub with_size : ℤ → (ℕ → Effect) → Effect
with_size (pos n) go = go n
with_size (negsuc n) go = Raise NegativeSize

-- ---- array instructions

-- what an array instruction moves: a reference, a byte or boolean, a short, or an int
pub data Moves : Type 0 where
  AReference : Moves
  AByte : Moves
  AShort : Moves
  AnInt : Moves

-- iaload, aaload, baload, saload
abbrev pub loads : ℕ → Option Moves
loads op =
    if op == jvm.iaload then Some AnInt else if op == jvm.aaload then Some AReference
    else if op == jvm.baload then Some AByte else if op == jvm.saload then Some AShort else None

-- iastore, aastore, bastore, sastore
abbrev pub stores : ℕ → Option Moves
stores op =
    if op == jvm.iastore then Some AnInt else if op == jvm.aastore then Some AReference
    else if op == jvm.bastore then Some AByte else if op == jvm.sastore then Some AShort else None

-- whether it moves references
abbrev pub of_references : Moves → Bool
of_references AReference = true
of_references moves = false

-- whether it serves an array of this type
abbrev pub serves : Moves → Option (Shape (List ℕ)) → Bool
serves AReference (Some (OfReferences class)) = true
serves AByte (Some (OfNumbers Booleans)) = true
serves AByte (Some (OfNumbers Bytes)) = true
serves AShort (Some (OfNumbers Shorts)) = true
serves AnInt (Some (OfNumbers Ints)) = true
serves moves shape = false

-- what an element keeps of a number: its low 8 or 16 bits
abbrev pub cut : Moves → ℤ → ℤ
cut AByte z = low_byte z
cut AShort z = low_word z
cut moves z = z

-- what a load gives of an element: of a byte or boolean its low 8 bits
abbrev pub load_of : Moves → Value → Value
load_of AByte (Num z) = Num (low_byte z)
load_of moves v = v

-- newarray's numbers of types: boolean 4, byte 8, short 9, int 10
abbrev pub element_of : ℕ → Option Element
element_of kind =
    if kind == 4 then Some Booleans else if kind == 8 then Some Bytes
    else if kind == 9 then Some Shorts else if kind == 10 then Some Ints else None

-- the class that a type is
abbrev pub class_in : Option (Shape (List ℕ)) → Option (List ℕ)
class_in (Some (OfClass class)) = Some class
class_in shape = None

-- ---- places

-- the place in the list of the instruction at an offset, and the place behind the last where none stands there
abbrev pub place : List JInsn → (offset : ℕ) → ℕ
place [] offset = 0
place (i ∷ insns) offset = if i.at == offset then 0 else suc (place insns offset)

-- the target of a lookupswitch
abbrev pub case_of : (other : ℕ) → List JCase → ℤ → ℕ
case_of other [] x = other
case_of other (c ∷ cases) x = if is_same c.value x then c.target else case_of other cases x

-- what is there, or the default
abbrev pub or_other : ℕ → Option ℕ → ℕ
or_other other None = other
or_other other (Some target) = target

-- the target of a tableswitch
abbrev pub entry_of : (other : ℕ) → List ℕ → ℤ → ℕ
entry_of other targets (pos i) = or_other other (slice_get targets i)
entry_of other targets (negsuc i) = other

-- 1 or 0
abbrev pub truth : Bool → ℤ
truth true = pos 1
truth false = pos 0

-- two references are the same
abbrev pub is_same_reference : Value → Value → Bool
is_same_reference Null Null = true
is_same_reference (Obj j) (Obj k) = j == k
is_same_reference a b = false

-- whether it is null
abbrev pub is_null : Value → Bool
is_null Null = true
is_null v = false

-- two truths are the same
abbrev pub agree : Bool → Bool → Bool
agree true b = b
agree false b = not b

-- ---- the rows: by the look-ups, the method, the place in its list, the locals and the store

module _ (l : Linked) (m : Method) (at : ℕ) (locals : List (Option Value)) (store : Store) where
  -- the class that holds the code
  abbrev pub holder : List ℕ
  holder = let id = m.id in id.class

  -- on at the next instruction
  abbrev pub onward : List Value → Effect
  onward stack = Go (at + 1) stack locals store

  -- on with one value more, where the stack has room
  abbrev pub push : Value → List Value → Effect
  push v stack = only_if (nat_lt (length stack) m.max_stack) (onward (v ∷ stack))

  -- on with other arrays and objects
  abbrev pub with_heap : List Thing → List Value → Effect
  with_heap heap stack = Go (at + 1) stack locals (record store { heap = heap })

  -- on with other static cells
  abbrev pub with_statics : List FieldValue → List Value → Effect
  with_statics statics stack = Go (at + 1) stack locals (record store { statics = statics })

  -- on with another local
  abbrev pub with_local : (k : ℕ) → Value → List Value → Effect
  with_local k v stack = Go (at + 1) stack (slice_set locals k (Some v)) store

  -- a jump to an offset
  abbrev pub jump : (target : ℕ) → List Value → Effect
  jump target stack = Go (place m.insns target) stack locals store

  -- a jump, or on
  abbrev pub jump_if : Bool → (target : ℕ) → List Value → Effect
  jump_if true target stack = jump target stack
  jump_if false target stack = onward stack

  -- ---- the stack, locals and numbers

  -- so many values leave the stack
  abbrev pub after_pop : ℕ → List Value → Effect
  after_pop n stack = only_if (nat_le n (length stack)) (onward (drop n stack))

  -- the top n values are copied below the top `below`, where the stack has room
  abbrev pub after_copy : (n below : ℕ) → List Value → Effect
  after_copy n below stack =
      only_if (nat_le below (length stack) && nat_le (n + length stack) m.max_stack)
      (onward (take below stack ++ (take n stack ++ drop below stack)))

  -- the top two change places
  abbrev pub after_swap : List Value → Effect
  after_swap (a ∷ b ∷ rest) = onward (b ∷ a ∷ rest)
  after_swap stack = Stick

  -- pop, pop2, dup, dup_x1, dup_x2, dup2, dup2_x1, dup2_x2, swap
  abbrev pub after_stack : ℕ → List Value → Effect
  after_stack op stack =
      if op == jvm.pop then after_pop 1 stack else if op == jvm.pop2 then after_pop 2 stack
      else if op == jvm.dup then after_copy 1 1 stack else if op == jvm.dup_x1 then after_copy 1 2 stack
      else if op == jvm.dup_x2 then after_copy 1 3 stack
      else if op == jvm.dup2 then after_copy 2 2 stack else if op == jvm.dup2_x1 then after_copy 2 3 stack
      else if op == jvm.dup2_x2 then after_copy 2 4 stack
      else if op == jvm.swap then after_swap stack else Stick

  -- iload, aload
  abbrev pub after_load : (refs : Bool) → (k : ℕ) → List Value → Effect
  after_load refs k stack = local_value (slice_get locals k) (λ v. only_if (is_kind refs v) (push v stack))

  -- istore, astore
  abbrev pub after_store : (refs : Bool) → (k : ℕ) → List Value → Effect
  after_store refs k stack = one_value stack (λ v rest. only_if (is_kind refs v && nat_lt k (length locals))
      (with_local k v rest))

  -- a local that holds a number is increased
  abbrev pub after_increase : (k : ℕ) → ℤ → Value → List Value → Effect
  after_increase k by (Num x) stack = with_local k (Num (wide (x +ℤ by))) stack
  after_increase k by v stack = Stick

  -- an operation on two numbers
  abbrev pub after_operation : Operation → List Value → Effect
  after_operation (Gives exact) stack = two_numbers stack (λ x y rest. onward (Num (wide (exact x y)) ∷ rest))
  after_operation (Divides exact) stack =
      two_numbers stack (λ x y rest. if is_zero y then Raise Arithmetic else onward (Num (wide (exact x y)) ∷ rest))
  after_operation Neither stack = Stick

  -- arithmetic, shifts and logic
  abbrev pub after_arithmetic : ℕ → List Value → Effect
  after_arithmetic op stack =
      if op == jvm.ineg then one_number stack (λ x rest. onward (Num (negation x) ∷ rest))
      else after_operation (operation op) stack

  -- i2b, i2s
  abbrev pub after_narrowing : ℕ → List Value → Effect
  after_narrowing op stack =
      if op == jvm.i2b then one_number stack (λ x rest. onward (Num (low_byte x) ∷ rest))
      else if op == jvm.i2s then one_number stack (λ x rest. onward (Num (low_word x) ∷ rest)) else Stick

  -- ---- jumps

  -- a conditional jump
  abbrev pub after_branch : Condition → (target : ℕ) → List Value → Effect
  after_branch (OfNumber holds) target stack = one_number stack (λ x rest. jump_if (holds x) target rest)
  after_branch (OfTwo holds) target stack = two_numbers stack (λ x y rest. jump_if (holds x y) target rest)
  after_branch (AreSame wanted) target stack =
      one_value stack (λ b below. one_value below (λ a rest.
      only_if (is_kind true a && is_kind true b) (jump_if (agree wanted (is_same_reference a b)) target rest)))
  after_branch (IsNull wanted) target stack =
      one_value stack (λ v rest. only_if (is_kind true v) (jump_if (agree wanted (is_null v)) target rest))
  after_branch Nothing target stack = Stick

  -- ireturn, areturn, return
  abbrev pub at_return : ℕ → List Value → Effect
  at_return op stack =
      if op == jvm.ireturn then one_number stack (λ x rest. Leave (Some (Num x)))
      else if op == jvm.areturn then one_value stack (λ v rest. only_if (is_kind true v) (Leave (Some v)))
      else if op == jvm.return then Leave None else Stick

  -- ---- arrays

  -- an element is pushed
  abbrev pub after_array_load : Option Moves → List Value → Effect
  after_array_load None stack = Stick
  after_array_load (Some moves) stack =
      one_number stack (λ i below. one_value below (λ r rest. thing_at store.heap r (λ k thing. array_in thing
      (λ desc items.
      only_if (serves moves (shape_named desc)) (item_at items i (λ n v. onward (load_of moves v ∷ rest)))))))

  -- whether an array object takes the reference: null, or an object of its element's class
  abbrev pub if_taken : Option (Shape (List ℕ)) → Value → (Value → Effect) → Effect
  if_taken (Some (OfReferences class)) (Obj j) go =
      with_some (slice_get store.heap j) (λ thing. if l.subtype (Some holder) (type_of thing) class then go (Obj j)
      else Raise ArrayStore)
  if_taken shape v go = go v

  -- what is kept of a value in an array of this type
  abbrev pub with_kept : Moves → Option (Shape (List ℕ)) → Value → (Value → Effect) → Effect
  with_kept moves shape (Num z) go = go (Num (cut moves z))
  with_kept moves shape Null go = go Null
  with_kept moves shape (Obj j) go = if_taken shape (Obj j) go

  -- an element is replaced
  abbrev pub after_array_store : Option Moves → List Value → Effect
  after_array_store None stack = Stick
  after_array_store (Some moves) stack =
      one_value stack (λ v under. one_number under (λ i below. one_value below (λ r rest.
      only_if (is_kind (of_references moves) v) (thing_at store.heap r (λ k thing. array_in thing (λ desc items.
      only_if (serves moves (shape_named desc)) (item_at items i (λ n old. with_kept moves (shape_named desc) v (λ w.
      with_heap (slice_set store.heap k (Array desc (slice_set items n w))) rest)))))))))

  -- a new array or object, and its reference
  abbrev pub with_new : Thing → List Value → Effect
  with_new thing rest = only_if (nat_lt (length rest) m.max_stack) (with_heap (store.heap
      ++ thing ∷ []) (Obj (length store.heap) ∷ rest))

  -- newarray
  abbrev pub with_new_numbers : Option Element → List Value → Effect
  with_new_numbers None stack = Stick
  with_new_numbers (Some element) stack =
      one_number stack (λ count rest. with_size count
      (λ n. with_new (Array (array_name element) (replicate n (Num (pos 0)))) rest))

  -- anewarray of a class that is there
  abbrev pub with_new_references : Option (List ℕ) → List Value → Effect
  with_new_references None stack = Stick
  with_new_references (Some class) stack =
      only_if (l.is_there (Some holder) class)
      (one_number stack (λ count rest. with_size count (λ n. with_new (Array (shape_name (OfReferences class))
      (replicate n Null)) rest)))

  -- arraylength
  abbrev pub with_length : List Value → Effect
  with_length stack =
      one_value stack (λ r rest. thing_at store.heap r (λ k thing. array_in thing
      (λ desc items. onward (Num (pos (length items)) ∷ rest))))

  -- ---- fields

  -- getstatic
  abbrev pub static_get : Option ResolvedField → List Value → Effect
  static_get (Some (Constant z)) stack = push (Num z) stack
  static_get (Some (Static f)) stack = with_some (value_in store.statics f) (λ v. push v stack)
  static_get field stack = Stick

  -- putstatic: the cell is there and holds a value of the same kind
  abbrev pub static_put : Option ResolvedField → List Value → Effect
  static_put (Some (Static f)) stack =
      one_value stack (λ v rest. with_some (value_in store.statics f) (λ old.
      only_if (is_same_kind old v) (with_statics (values_with store.statics f v) rest)))
  static_put field stack = Stick

  -- getfield
  abbrev pub field_get : Option ResolvedField → List Value → Effect
  field_get (Some (Instance f)) stack =
      one_value stack (λ r rest. thing_at store.heap r (λ k thing. object_in thing (λ class fields.
      with_some (value_in fields f) (λ v. onward (v ∷ rest)))))
  field_get field stack = Stick

  -- putfield
  abbrev pub field_put : Option ResolvedField → List Value → Effect
  field_put (Some (Instance f)) stack =
      one_value stack (λ v below. one_value below (λ r rest. thing_at store.heap r (λ k thing. object_in thing
      (λ class fields.
      with_some (value_in fields f) (λ old. only_if (is_same_kind old v)
      (with_heap (slice_set store.heap k (Object class (values_with fields f v))) rest))))))
  field_put field stack = Stick

  -- ---- types

  -- a type whose class is there
  abbrev pub is_type : Option (Shape (List ℕ)) → Bool
  is_type None = false
  is_type (Some (OfClass class)) = l.is_there (Some holder) class
  is_type (Some (OfNumbers element)) = true
  is_type (Some (OfReferences class)) = l.is_there (Some holder) class

  -- whether the array or object of a reference is of a type; null is asked nothing
  abbrev pub type_test : (type : List ℕ) → Value → (null : Effect) → (Bool → Effect) → Effect
  type_test type (Num x) null go = Stick
  type_test type Null null go = null
  type_test type (Obj k) null go = with_some (slice_get store.heap k)
      (λ thing. go (l.subtype (Some holder) (type_of thing) type))

  -- checkcast
  abbrev pub after_cast : (type : List ℕ) → List Value → Effect
  after_cast type stack =
      only_if (is_type (shape_named type)) (one_value stack (λ v rest.
      type_test type v (onward (v ∷ rest)) (λ is_of. if is_of then onward (v ∷ rest) else Raise ClassCast)))

  -- instanceof
  abbrev pub after_instanceof : (type : List ℕ) → List Value → Effect
  after_instanceof type stack =
      only_if (is_type (shape_named type)) (one_value stack (λ v rest.
      type_test type v (onward (Num (pos 0) ∷ rest)) (λ is_of. onward (Num (truth is_of) ∷ rest))))

  -- athrow
  abbrev pub on_throw : Value → Effect
  on_throw (Num x) = Stick
  on_throw Null = Raise NullPointer
  on_throw (Obj k) = Toss k

  -- Each row of the instructions.
  unfoldable pub effect : JOp → List Value → Effect
  effect jop.Nop stack = onward stack
  effect jop.Null stack = push Null stack
  effect (jop.Number z) stack = push (Num z) stack
  effect (jop.Load refs k) stack = after_load refs k stack
  effect (jop.Store refs k) stack = after_store refs k stack
  effect (jop.ArrayLoad op) stack = after_array_load (loads op) stack
  effect (jop.ArrayStore op) stack = after_array_store (stores op) stack
  effect (jop.Stack op) stack = after_stack op stack
  effect (jop.Arith op) stack = after_arithmetic op stack
  effect (jop.Inc k by) stack = local_value (slice_get locals k) (λ v. after_increase k by v stack)
  effect (jop.Narrow op) stack = after_narrowing op stack
  effect (jop.If op target) stack = after_branch (condition op) target stack
  effect (jop.Goto target) stack = jump target stack
  effect (jop.TableSwitch other low targets) stack =
      one_number stack (λ x rest. jump (entry_of other targets (x -ℤ low)) rest)
  effect (jop.LookupSwitch other cases) stack = one_number stack (λ x rest. jump (case_of other cases x) rest)
  effect (jop.Return op) stack = at_return op stack
  effect (jop.Static put field) stack = if put then static_put (l.field holder field) stack
      else static_get (l.field holder field) stack
  effect (jop.Field put field) stack = if put then field_put (l.field holder field) stack
      else field_get (l.field holder field) stack
  effect (jop.Call op method) stack = Invoke op method
  effect (jop.New class) stack =
      with_some (l.made holder class) (λ fields. with_new (Object class (map fresh_field fields)) stack)
  effect (jop.NewArray kind) stack = with_new_numbers (element_of kind) stack
  effect (jop.ANewArray class) stack = with_new_references (class_in (shape_named class)) stack
  effect jop.ArrayLength stack = with_length stack
  effect jop.Throw stack = one_value stack (λ v rest. on_throw v)
  effect (jop.CheckCast class) stack = after_cast class stack
  effect (jop.InstanceOf class) stack = after_instanceof class stack
