-- The run of narrow code by label and name, on words of 16 bits: the machine of its look-ups.
use Rattle.std.specs.Prelude.{ℕ, ◌+◌, ◌*◌, List, [], ◌∷◌, map, Option, Some, None, option_map, option_and_then, Bool}
use Rattle.std.specs.Prelude.{true, false, nat_le, nat_lt, ◌==◌, ◌&&◌, if◌then◌else◌, slice_get, ℤ, pos, ◌+ℤ◌}
use Rattle.cjc_code.specs.Bytes.declared.fault.MemberId.{MemberId}
use Rattle.cjc_card_semantics.specs.Script.declared.value.Value.{Value}
use Rattle.cjc_card_semantics.specs.Script.declared.script.Script.{Script}
use Rattle.cjc_card_semantics.specs.Script.declared.report.FieldValue.{FieldValue}
use Rattle.cjc_card_semantics.specs.Script.declared.report.Report.{Report}
use Rattle.cjc_card_semantics.specs.Script.Sorts.{Element, Booleans, Bytes, Shorts, Ints, Shape, OfClass}
use Rattle.cjc_card_semantics.specs.Script.Sorts.{OfNumbers}
use Rattle.cjc_card_semantics.specs.Script.Sorts.{OfReferences}
use Rattle.cjc_card_semantics.specs.Script.Sorts.{field_sort, zero_of}
use Rattle.cjc_card_semantics.specs.Bytecode.Calculations.{Fault}
use Rattle.cjc_card_semantics.specs.Bytecode.Effects.{Arm, Slot, Memory, Classes, Operation, Do, Branch, Pick, Touch}
use Rattle.cjc_card_semantics.specs.Bytecode.Effects.{Get, Put, GetStatic, PutStatic, Call, New, NewNumbers}
use Rattle.cjc_card_semantics.specs.Bytecode.Effects.{NewReferences, Cast, Ask, Undone, same_kind, slot_of, slots_with}
use Rattle.cjc_card_semantics.specs.Bytecode.Meanings.{Meaning, Plain, Branches, Ranged, Paired, Touches, Uses, Casts}
use Rattle.cjc_card_semantics.specs.Bytecode.Meanings.{Asks, Use, Gets, Puts, GetsStatic, PutsStatic, Calls, Makes}
use Rattle.cjc_card_semantics.specs.Bytecode.Meanings.{MakesReferences, Mode, Virtual, Special, Static, meaning}
use Rattle.cjc_card_semantics.specs.Bytecode.Machine.{Start, Reached, Nowhere, Within, Abroad, Fetched, Setting, State}
use Rattle.cjc_card_semantics.specs.Bytecode.Machine
use Rattle.cjc_ncode.specs.declared.narrow.NCase.{NCase}
use Rattle.cjc_ncode.specs.declared.narrow.NInsn.{NInsn}
use Rattle.cjc_ncode.specs.declared.narrow.NInsn.TheVariants as insns
use Rattle.cjc_ncode.specs.declared.narrow.NCatch.{NCatch}
use Rattle.cjc_ncode.specs.declared.narrow.NMethod.{NMethod}
use Rattle.cjc_ncode.specs.declared.narrow.PoolKey.{PoolKey}
use Rattle.cjc_ncode.specs.declared.narrow.PoolKey.TheVariants as keys
use Rattle.cjc_ncode.specs.PoolOrder.{same_member}

-- what a call names
pub data Callee : Type 0 where
  -- a static method, a constructor or a private method
  Fixed : (on_object : Bool) (method : MemberId) → Callee
  -- a virtual method, selected on the receiver, or from the superclass of the class
  OnObject : (method : MemberId) → Callee
  OnSuper : (method : MemberId) → Callee
  -- a method of an interface, and the words of its arguments with the receiver
  OnInterface : (words : ℕ) (method : MemberId) → Callee

-- the look-ups by name that the machine goes by
pub record Named : Type 0 where
  pub is_of : Shape (List ℕ) → Shape (List ℕ) → Bool
  -- the instance fields of a class, a superclass's before its own; None where no object is made of it
  pub fields : List ℕ → Option (List MemberId)
  -- what a call reaches on a receiver of a type, and how many words it takes; nothing on a receiver that is not of the
  -- class that the call names
  pub reached : Callee → Option (Shape (List ℕ)) → Reached NMethod
  pub words : Callee → Option ℕ
  pub fault : Fault → Option (List ℕ)
  pub class_named : List ℕ → Option (List ℕ)
  pub imported : List ℕ → Option (List ℕ)
  pub throwable : List ℕ → Option (List ℕ)
  pub called : MemberId → Option (Start NMethod)
  pub sent : Shape (List ℕ) → MemberId → Option (Start NMethod)
  -- the heap and the static cells before the first entry
  pub memory : Memory (List ℕ) MemberId (List (Slot MemberId))

-- ---- one instruction

-- an operation by name
abbrev pub Resolved : Type 0
Resolved = Operation (List ℕ) MemberId MemberId Callee

-- with these operands
abbrev pub plain : Meaning → List ℤ → Resolved
plain (Plain calculation) operands = Do (calculation operands)
plain (Touches access) operands = Touch access
plain m operands = Undone

-- a jump to a place
abbrev pub jumping : Meaning → (target : ℕ) → Resolved
jumping (Branches test) target = Branch test target
jumping m target = Undone

-- the numbers from a low one on
abbrev pub ranged : ℤ → List NCase → List Arm
ranged low [] = []
ranged low (c ∷ cases) = record { value = low; to = c.target } ∷ ranged (low +ℤ pos 1) cases

-- a case of a lookup switch
abbrev pub arm_of : NCase → Arm
arm_of c = record { value = c.value; to = c.target }

-- a switch over its cases
abbrev pub switching : Meaning → (other : ℕ) → (low : ℤ) → List NCase → Resolved
switching (Ranged is_int) other low cases = Pick is_int other (ranged low cases)
switching (Paired is_int) other low cases = Pick is_int other (map arm_of cases)
switching m other low cases = Undone

-- the method that a key names, by how it is called
abbrev pub calling : Mode → PoolKey → Option Callee
calling Virtual (keys.Virtual m) = Some (OnObject m)
calling Special (keys.Super m) = Some (OnSuper m)
calling Special (keys.StaticMethod m) = Some (Fixed true m)
calling Static (keys.StaticMethod m) = Some (Fixed false m)
calling mode key = None

-- a call of what is named
abbrev pub call_if : Option Callee → Resolved
call_if None = Undone
call_if (Some m) = Call m

-- what is done with a key; nothing with one of another kind
abbrev pub using : Use → PoolKey → Resolved
using (Gets this letter) (keys.Field f) = Get this letter f
using (Puts this letter) (keys.Field f) = Put this letter f
using (GetsStatic letter) (keys.StaticField f) = GetStatic letter f
using (PutsStatic letter) (keys.StaticField f) = PutStatic letter f
using (Calls mode) key = call_if (calling mode key)
using Makes (keys.Class c) = New c
using MakesReferences (keys.Class c) = NewReferences c
using how key = Undone

-- what an opcode does with its key
abbrev pub naming : Meaning → PoolKey → Resolved
naming (Uses how) key = using how key
naming m key = Undone

-- boolean 10, byte 11, short 12, int 13; 14 an array of references, 0 a class
abbrev pub element_type : ℕ → Option Element
element_type n =
    if n == 10 then Some Booleans else (if n == 11 then Some Bytes else (if n == 12 then Some Shorts
    else (if n == 13 then Some Ints else None)))

-- the type that checkcast and instanceof name
abbrev pub type_by : ℕ → Option (List ℕ) → Option (Shape (List ℕ))
type_by n class =
    if n == 0 then option_map OfClass class else (if n == 14 then option_map OfReferences class
    else option_map OfNumbers (element_type n))

-- checkcast or instanceof
abbrev pub testing : Meaning → Option (Shape (List ℕ)) → Resolved
testing Casts (Some kind) = Cast kind
testing Asks (Some kind) = Ask kind
testing m kind = Undone

-- a new array of numbers
abbrev pub making : Option Element → Resolved
making None = Undone
making (Some element) = NewNumbers element

-- What an instruction does, by the meaning of its opcode.
abbrev pub operation : NInsn → Resolved
operation (insns.Op op) = plain (meaning op) []
operation (insns.Push op value) = plain (meaning op) (value ∷ [])
operation (insns.Local op index) = plain (meaning op) (pos index ∷ [])
operation (insns.Inc op index by) = plain (meaning op) (pos index ∷ by ∷ [])
operation (insns.Words op m n) = plain (meaning op) (pos (16 * m + n) ∷ [])
operation (insns.Jump op target) = jumping (meaning op) target
operation (insns.Switch op other low cases) = switching (meaning op) other low cases
operation (insns.Named op key) = naming (meaning op) key
operation (insns.Interface nargs method) = Call (OnInterface nargs method)
operation (insns.NewArray kind) = making (element_type kind)
operation (insns.TypeTest op kind class) = testing (meaning op) (type_by kind class)

-- the instruction at a place of the list
abbrev pub fetch : NMethod → (at : ℕ) → Option (Fetched (List ℕ) MemberId MemberId Callee)
fetch m at = option_map (λ insn. record { operation = operation insn; next = at + 1 }) (slice_get m.insns at)

-- ---- handlers

-- a handler takes an exception of a type
abbrev pub takes : Named → Option (List ℕ) → Shape (List ℕ) → Bool
takes l None kind = true
takes l (Some c) kind = l.is_of kind (OfClass c)

-- the first handler that covers the place and takes the exception
abbrev pub handler : Named → List NCatch → (at : ℕ) → Shape (List ℕ) → Option ℕ
handler l [] at kind = None
handler l (c ∷ catches) at kind =
    if (nat_le c.start at && nat_lt at c.end) && takes l c.class kind then Some c.target else handler l catches at kind

-- whether a call has a receiver
abbrev pub on_object : Callee → Bool
on_object (Fixed on m) = on
on_object callee = true

-- ---- fields and static cells

-- a field of a new object
abbrev pub slot_for : MemberId → Slot MemberId
slot_for f = record { key = f; value = zero_of (field_sort f.desc) }

-- the fields of a new object
abbrev pub fresh : Named → List ℕ → Option (List (Slot MemberId))
fresh l c = option_map (map slot_for) (l.fields c)

-- the cells with another value, of the same kind
abbrev pub put_cell : List (Slot MemberId) → MemberId → (new old : Value) → Option (List (Slot MemberId))
put_cell cells f new old = if same_kind old new then Some (slots_with same_member cells f new) else None

-- the same where the cell is there
abbrev pub put_static : List (Slot MemberId) → MemberId → (new : Value) → Option (List (Slot MemberId))
put_static cells f new = option_and_then (put_cell cells f new) (slot_of same_member cells f)

-- a field or cell as a report shows it
abbrev pub shown_slot : Slot MemberId → FieldValue
shown_slot s = record { field = s.key; value = s.value }

-- what instructions ask of classes
abbrev pub classes : Named → Classes (List ℕ) MemberId MemberId (List (Slot MemberId))
classes l = record {
  is_of = l.is_of;
  same_field = same_member;
  fresh = fresh l;
  get_static = λ letter f cells. slot_of same_member cells f;
  put_static = λ letter f v cells. put_static cells f v;
}

-- ---- the machine

-- the look-ups of narrow code
unfoldable pub by_label : Named → Setting NMethod (List ℕ) MemberId MemberId Callee (List (Slot MemberId))
by_label l = record {
  classes = classes l;
  room = λ m. m.max_stack;
  fetch = fetch;
  handler = λ m at kind. handler l m.catches at kind;
  on_object = on_object;
  words = l.words;
  reached = l.reached;
  fault = l.fault;
  class_named = l.class_named;
  imported = l.imported;
  throwable = l.throwable;
  called = l.called;
  sent = l.sent;
  name = λ c. c;
  fields = λ c slots. map shown_slot slots;
  cells = map shown_slot;
}

-- The run of n instructions.
abbrev pub run : Named → Script → ℕ → Report
run l script n = Machine.run (by_label l) n (Machine.start l.memory script)
