-- The run of class files by name, on numbers of 32 bits (Java Virtual Machine Specification, chapter 6).
use Rattle.std.specs.Prelude.{ℕ, zero, suc, ◌+◌, ◌-◌, List, [], ◌∷◌, ◌++◌, length, take, drop, map, reverse, replicate, Option, Some, None, Bool, true, false, nat_lt, nat_le, ◌==◌, ◌&&◌, if◌then◌else◌, slice_get, slice_set, ℤ, pos, negsuc, ◌+ℤ◌}
use Rattle.std.specs.Int.{w16, w32, int_wrap}
use Rattle.cjc_bytes.specs.declared.fault.MemberId.{MemberId}
use Rattle.cjc_classfile.specs.declared.tree.Catch.{Catch}
use Rattle.cjc_code.specs.declared.insn.JInsn.{JInsn}
use Rattle.cjc_code.specs.declared.insn.JOp.{JOp}
use Rattle.cjc_code.specs.declared.insn.JOp.TheVariants as jop
use Rattle.cjc_script.specs.declared.value.Value.{Value}
use Rattle.cjc_script.specs.declared.value.Value.TheVariants.{Num, Null, Obj}
use Rattle.cjc_script.specs.declared.script.Act.{Act}
use Rattle.cjc_script.specs.declared.script.Act.TheVariants as acts
use Rattle.cjc_script.specs.declared.script.Entry.{Entry}
use Rattle.cjc_script.specs.declared.script.Reply.{Reply}
use Rattle.cjc_script.specs.declared.script.Reply.TheVariants.{Give, Throw}
use Rattle.cjc_script.specs.declared.script.Answer.{Answer}
use Rattle.cjc_script.specs.declared.script.Script.{Script}
use Rattle.cjc_script.specs.declared.report.FieldValue.{FieldValue}
use Rattle.cjc_script.specs.declared.report.Thing.{Thing}
use Rattle.cjc_script.specs.declared.report.Thing.TheVariants.{Array, Object}
use Rattle.cjc_script.specs.declared.report.Note.{Note}
use Rattle.cjc_script.specs.declared.report.Note.TheVariants as notes
use Rattle.cjc_script.specs.declared.report.Outcome.{Outcome}
use Rattle.cjc_script.specs.declared.report.Outcome.TheVariants.{Done, Running, Waiting, Unfit, Stuck}
use Rattle.cjc_script.specs.declared.report.Report.{Report}
use Rattle.cjc_first.specs.Scripts.Types.{Sort, Reference, NoValue, Signature, signature, element_of}
use Rattle.cjc_first.specs.Scripts.Fits.{type_of, fits, all_fit, result_fits}
use Rattle.cjc_first.specs.NameMachine.Linked.{Method, Callee, Inside, Outside, AtOnce, Linked}

-- ---- numbers

-- the 32-bit number that stands for an exact result
abbrev pub wide : ℤ → ℤ
wide z = int_wrap w32 z

-- the low word, as a signed number
abbrev pub low_word : ℤ → ℤ
low_word z = int_wrap w16 z

-- ---- states

-- a method under way: the place in its list of instructions, its operands with the top first, and its locals
pub record Frame : Type 0 where
  pub method : Method
  pub at : ℕ
  pub stack : List Value
  pub locals : List (Option Value)

-- arrays and objects in order of creation, and the static cells
pub record Store : Type 0 where
  pub heap : List Thing
  pub statics : List FieldValue

-- the frames with the innermost first, the entries and answers that are left, what was noted, and how many instructions were run
pub record State : Type 0 where
  pub frames : List Frame
  pub store : Store
  pub entries : List Entry
  pub answers : List Answer
  pub notes : List Note
  pub spent : ℕ

-- ---- one instruction

-- What an instruction asks for: to go on in its frame, to raise an exception of the machine's own, to throw an object, to
-- call, to return, or nothing that the machine has.
pub data Deed : Type 0 where
  Go : (at : ℕ) (stack : List Value) (locals : List (Option Value)) (store : Store) → Deed
  Raise : (class : List ℕ) → Deed
  Toss : (object : ℕ) → Deed
  Invoke : (op : ℕ) (method : MemberId) → Deed
  Leave : (value : Option Value) → Deed
  Stick : Deed

-- the operands on top of the stack
abbrev pub one_number : List Value → (ℤ → List Value → Deed) → Deed
one_number (Num x ∷ stack) go = go x stack
one_number stack go = Stick

abbrev pub two_numbers : List Value → (ℤ → ℤ → List Value → Deed) → Deed
two_numbers (Num y ∷ Num x ∷ stack) go = go x y stack
two_numbers stack go = Stick

-- goes on at the next instruction with one value more, where the stack has room
abbrev pub pushed : (room at : ℕ) (locals : List (Option Value)) → Store → Value → List Value → Deed
pushed room at locals store value stack =
    if nat_lt (length stack) room then Go (at + 1) (value ∷ stack) locals store else Stick

-- a local that is set and of the sort that is asked for
abbrev pub local_of : Option (Option Value) → (refs : Bool) → (Value → Deed) → Deed
local_of (Some (Some (Num x))) false go = go (Num x)
local_of (Some (Some Null)) true go = go Null
local_of (Some (Some (Obj k))) true go = go (Obj k)
local_of value refs go = Stick

-- the exact result of arithmetic on two numbers, by its opcode
abbrev pub exact : ℕ → Option (ℤ → ℤ → ℤ)
exact op = if op == 0x60 then Some (λ x y. x +ℤ y) else None

abbrev pub calculated : Option (ℤ → ℤ → ℤ) → (at : ℕ) (locals : List (Option Value)) → Store → List Value → Deed
calculated None at locals store stack = Stick
calculated (Some f) at locals store stack =
    two_numbers stack (λ x y rest. Go (at + 1) (Num (wide (f x y)) ∷ rest) locals store)

-- each row of the instructions' table
unfoldable pub does : JOp → (room at : ℕ) (locals : List (Option Value)) → Store → List Value → Deed
does jop.Nop room at locals store stack = Go (at + 1) stack locals store
does (jop.Number z) room at locals store stack = pushed room at locals store (Num z) stack
does (jop.Load refs l) room at locals store stack =
    local_of (slice_get locals l) refs (λ v. pushed room at locals store v stack)
does (jop.Arith op) room at locals store stack = calculated (exact op) at locals store stack
does (jop.Narrow op) room at locals store stack =
    if op == 0x93 then one_number stack (λ x rest. Go (at + 1) (Num (low_word x) ∷ rest) locals store) else Stick
does (jop.Return op) room at locals store stack =
    if op == 0xAC then one_number stack (λ x rest. Leave (Some (Num x))) else Stick
-- no package that is converted so far has these
does jop.Null room at locals store stack = Stick
does (jop.Store refs l) room at locals store stack = Stick
does (jop.ArrayLoad op) room at locals store stack = Stick
does (jop.ArrayStore op) room at locals store stack = Stick
does (jop.Stack op) room at locals store stack = Stick
does (jop.Inc l by) room at locals store stack = Stick
does (jop.If op target) room at locals store stack = Stick
does (jop.Goto target) room at locals store stack = Stick
does (jop.TableSwitch other low targets) room at locals store stack = Stick
does (jop.LookupSwitch other cases) room at locals store stack = Stick
does (jop.Static put field) room at locals store stack = Stick
does (jop.Field put field) room at locals store stack = Stick
does (jop.Call op method) room at locals store stack = Invoke op method
does (jop.New class) room at locals store stack = Stick
does (jop.NewArray kind) room at locals store stack = Stick
does (jop.ANewArray class) room at locals store stack = Stick
does jop.ArrayLength room at locals store stack = Stick
does jop.Throw room at locals store stack = Stick
does (jop.CheckCast class) room at locals store stack = Stick
does (jop.InstanceOf class) room at locals store stack = Stick

-- ---- turns

-- what a turn leaves: a state to go on from, or the end
pub data Turn : Type 0 where
  Next : (state : State) → Turn
  Ended : (outcome : Outcome) (state : State) → Turn

-- the offset of an instruction in its code
abbrev pub offset_of : Option JInsn → ℕ
offset_of None = 0
offset_of (Some i) = i.at

abbrev pub offset : Frame → ℕ
offset f = offset_of (slice_get f.method.insns f.at)

abbrev pub stuck : Frame → State → Turn
stuck f s = Ended (Stuck (offset f)) s

-- the place of the instruction at an offset, and the place behind the last where none stands there
abbrev pub place : List JInsn → ℕ → ℕ
place [] at = 0
place (i ∷ insns) at = if i.at == at then 0 else suc (place insns at)

-- the first handler that covers the offset and takes the class
abbrev pub takes : Linked → Option (List ℕ) → List ℕ → Bool
takes l None class = true
takes l (Some name) class = l.subtype class name

abbrev pub covers : Linked → Catch → (offset : ℕ) → List ℕ → Bool
covers l c offset class = nat_le c.start offset && (nat_lt offset c.end && takes l c.class class)

abbrev pub handler : Linked → List Catch → (offset : ℕ) → List ℕ → Option ℕ
handler l [] offset class = None
handler l (c ∷ catches) offset class = if covers l c offset class then Some c.target else handler l catches offset class

-- an exception goes outwards to the first frame that handles it, and ends the entry where none does
abbrev pub caught_at : Option ℕ → Frame → List Frame → (object : ℕ) → State → Turn → Turn
caught_at (Some target) f outer object s past =
    Next (record s { frames = record f { at = place f.method.insns target; stack = Obj object ∷ [] } ∷ outer })
caught_at None f outer object s past = past

abbrev pub caught : Linked → List Frame → (object : ℕ) (class : List ℕ) → State → Turn
caught l [] object class s = Next (record s { frames = []; notes = s.notes ++ notes.Thrown class object ∷ [] })
caught l (f ∷ outer) object class s =
    caught_at (handler l f.method.catches (offset f) class) f outer object s (caught l outer object class s)

-- an object of an imported class is made
abbrev pub with_thing : Thing → State → State
with_thing thing s = record s { store = record { heap = s.store.heap ++ thing ∷ []; statics = s.store.statics } }

-- an object of the class is made and thrown
abbrev pub raised : Linked → List Frame → (class : List ℕ) → State → Turn
raised l frames class s = caught l frames (length s.store.heap) class (with_thing (Object class []) s)

abbrev pub tossed : Linked → Option Thing → Frame → List Frame → (object : ℕ) → State → Turn
tossed l (Some (Object class fields)) f outer object s = caught l (f ∷ outer) object class s
tossed l thing f outer object s = stuck f s

-- a frame that begins: its arguments are its first locals
abbrev pub entered : Method → List Value → Frame
entered m args =
    record { method = m; at = 0; stack = []; locals = map Some args ++ replicate (m.max_locals - length args) None }

-- a result goes to the frame that called, where its stack has room, and notes the end of an entry where none did
abbrev pub returned_to : Option Value → Frame → List Frame → State → Turn
returned_to None f outer s = Next (record s { frames = record f { at = f.at + 1 } ∷ outer })
returned_to (Some v) f outer s =
    if nat_lt (length f.stack) f.method.max_stack
    then Next (record s { frames = record f { at = f.at + 1; stack = v ∷ f.stack } ∷ outer })
    else stuck f s

abbrev pub returned : List Frame → Option Value → State → Turn
returned [] v s = Next (record s { frames = []; notes = s.notes ++ notes.Result v ∷ [] })
returned (f ∷ outer) v s = returned_to v f outer s

-- ---- acts of the script

-- an array of zeros or nulls
abbrev pub zero_of : Sort → Value
zero_of (Reference name) = Null
zero_of kind = Num (pos 0)

abbrev pub has_type : Linked → Sort → Bool
has_type l (Reference name) = l.is_there name
has_type l NoValue = false
has_type l kind = true

abbrev pub element : List ℕ → Sort
element [] = NoValue
element (c ∷ name) = if c == 91 then element_of name else NoValue

abbrev pub array_of : Linked → (desc : List ℕ) → ℤ → Option Thing
array_of l desc (negsuc n) = None
array_of l desc (pos n) =
    if has_type l (element desc) && nat_le n 32767 then Some (Array desc (replicate n (zero_of (element desc)))) else None

abbrev pub put_in : Linked → List Thing → (array : ℕ) → Option Thing → ℤ → Value → Option (List Thing)
put_in l heap array (Some (Array desc items)) (pos i) v =
    if nat_lt i (length items) && fits l.subtype heap (element desc) v
    then Some (slice_set heap array (Array desc (slice_set items i v))) else None
put_in l heap array thing i v = None

abbrev pub grown : List Thing → Option Thing → Option (List Thing)
grown heap None = None
grown heap (Some thing) = Some (heap ++ thing ∷ [])

-- the heap after an act, where it fits
abbrev pub acted : Linked → Act → List Thing → Option (List Thing)
acted l (acts.Array desc size) heap = grown heap (array_of l desc size)
acted l (acts.Object class) heap = grown heap (if l.is_imported class then Some (Object class []) else None)
acted l (acts.Put array i v) heap = put_in l heap array (slice_get heap array) i v

-- the heap after acts in order, up to the first that does not fit
pub record Prepared : Type 0 where
  pub heap : List Thing
  pub fit : Bool

abbrev pub prepared_by : Option (List Thing) → List Thing → (List Thing → Prepared) → Prepared
prepared_by None heap go = record { heap = heap; fit = false }
prepared_by (Some heap) old go = go heap

abbrev pub prepared : Linked → List Act → List Thing → Prepared
prepared l [] heap = record { heap = heap; fit = true }
prepared l (a ∷ acts) heap = prepared_by (acted l a heap) heap (λ h. prepared l acts h)

abbrev pub with_heap : List Thing → State → State
with_heap heap s = record s { store = record { heap = heap; statics = s.store.statics } }

-- ---- imported calls

-- java/lang/Throwable
abbrev pub throwable : List ℕ
throwable = 106 ∷ 97 ∷ 118 ∷ 97 ∷ 47 ∷ 108 ∷ 97 ∷ 110 ∷ 103 ∷ 47 ∷ 84 ∷ 104 ∷ 114 ∷ 111 ∷ 119 ∷ 97 ∷ 98 ∷ 108 ∷ 101 ∷ []

-- java/lang/NullPointerException
abbrev pub null_pointer : List ℕ
null_pointer = 106 ∷ 97 ∷ 118 ∷ 97 ∷ 47 ∷ 108 ∷ 97 ∷ 110 ∷ 103 ∷ 47 ∷ 78 ∷ 117 ∷ 108 ∷ 108 ∷ 80 ∷ 111 ∷ 105 ∷ 110 ∷ 116 ∷ 101 ∷ 114 ∷ 69 ∷ 120 ∷ 99 ∷ 101 ∷ 112 ∷ 116 ∷ 105 ∷ 111 ∷ 110 ∷ []

-- the answer gives a value of the result's type, or throws an object of an imported class
abbrev pub replied : Linked → Reply → (number : ℕ) (result : Option Sort) → List Frame → State → Turn
replied l (Give v) number result frames s =
    if result_fits l.subtype s.store.heap result v then returned frames v s else Ended (Unfit number) s
replied l (Throw class) number result frames s =
    if l.is_imported class && l.subtype class throwable then raised l frames class s else Ended (Unfit number) s

abbrev pub answered_by : Linked → Answer → (result : Option Sort) → List Frame → Prepared → State → Turn
answered_by l a result frames p s =
    if p.fit then replied l a.reply a.number result frames (with_heap p.heap s) else Ended (Unfit a.number) (with_heap p.heap s)

-- an imported call takes the next answer, after the answer's acts
abbrev pub answered : Linked → List Answer → (result : Option Sort) → List Frame → State → Turn
answered l [] result frames s = Ended Waiting s
answered l (a ∷ answers) result frames s =
    answered_by l a result frames (prepared l a.acts s.store.heap) (record s { answers = answers })

-- ---- calls

-- what is called with these arguments, from a frame whose operands they were
abbrev pub reached : Linked → Option Callee → MemberId → Signature → List Value → (caller g : Frame) → List Frame → State → Turn
reached l None id types args f g outer s = stuck f s
reached l (Some (Inside m)) id types args f g outer s = Next (record s { frames = entered m args ∷ g ∷ outer })
reached l (Some (Outside class)) id types args f g outer s =
    answered l s.answers types.result (g ∷ outer)
    (record s { notes = s.notes ++ notes.Event (record id { class = class }) args ∷ [] })
reached l (Some AtOnce) id types args f g outer s = returned (g ∷ outer) None s

abbrev pub received : Linked → (op : ℕ) → Option Thing → MemberId → Signature → List Value → (caller g : Frame) → List Frame → State → Turn
received l op None id types args f g outer s = stuck f s
received l op (Some thing) id types args f g outer s =
    reached l (l.called op f.method.id.class (Some (type_of thing)) id) id types args f g outer s

-- with the receiver first, which must not be null
abbrev pub dispatched : Linked → (op : ℕ) → List Value → MemberId → Signature → (caller g : Frame) → List Frame → State → Turn
dispatched l op (Obj k ∷ args) id types f g outer s =
    received l op (slice_get s.store.heap k) id types (Obj k ∷ args) f g outer s
dispatched l op (Null ∷ args) id types f g outer s = raised l (f ∷ outer) null_pointer s
dispatched l op args id types f g outer s = stuck f s

-- so many operands, the last on top
abbrev pub counted : ℕ → Frame → State → (List Value → Frame → Turn) → Turn
counted n f s go =
    if nat_le n (length f.stack)
    then go (reverse (take n f.stack)) (record f { stack = drop n f.stack })
    else stuck f s

abbrev pub invoked : Linked → (op : ℕ) → MemberId → Option Signature → Frame → List Frame → State → Turn
invoked l op id None f outer s = stuck f s
invoked l op id (Some types) f outer s =
    -- invokestatic has no receiver
    if op == 0xB8
    then counted (length types.params) f s (λ args g. reached l (l.called op f.method.id.class None id) id types args f g outer s)
    else counted (length types.params + 1) f s (λ args g. dispatched l op args id types f g outer s)

-- ---- the machine

abbrev pub done : Linked → Deed → Frame → List Frame → State → Turn
done l (Go at stack locals store) f outer s =
    Next (record s { frames = record f { at = at; stack = stack; locals = locals } ∷ outer; store = store })
done l (Raise class) f outer s = raised l (f ∷ outer) class s
done l (Toss object) f outer s = tossed l (slice_get s.store.heap object) f outer object s
done l (Invoke op id) f outer s = invoked l op id (signature id.desc) f outer s
done l (Leave v) f outer s = returned outer v s
done l Stick f outer s = stuck f s

abbrev pub deed_of : Option JInsn → Frame → Store → Deed
deed_of None f store = Stick
deed_of (Some i) f store = does i.op f.method.max_stack f.at f.locals store f.stack

-- an instruction counts as spent where the machine has it
abbrev pub spend : State → State
spend s = record s { spent = s.spent + 1 }

abbrev pub spending : Outcome → State → State
spending (Stuck at) s = s
spending outcome s = spend s

abbrev pub spend_in : Turn → Turn
spend_in (Next s) = Next (spend s)
spend_in (Ended outcome s) = Ended outcome (spending outcome s)

-- one instruction
abbrev pub step : Linked → List Frame → State → Turn
step l [] s = Ended (Stuck 0) s
step l (f ∷ outer) s = spend_in (done l (deed_of (slice_get f.method.insns f.at) f s.store) f outer s)

-- the object that a call is selected on
abbrev pub receiver_in : Linked → MemberId → Option Thing → Option Method
receiver_in l id None = None
receiver_in l id (Some thing) = l.sent (type_of thing) id

abbrev pub selected_in : Linked → MemberId → List Thing → List Value → Option Method
selected_in l id heap (Obj k ∷ args) = receiver_in l id (slice_get heap k)
selected_in l id heap args = None

abbrev pub entry_method : Linked → Entry → List Thing → Option Method
entry_method l e heap = if e.virtual_call then selected_in l e.method heap e.args else l.entry e.method

abbrev pub args_of : Entry → List Value
args_of e = if e.virtual_call then drop 1 e.args else e.args

-- the next entry begins, if it fits
abbrev pub begun_in : Linked → Option Method → Entry → List Entry → State → Turn
begun_in l None e entries s = Ended (Unfit e.number) s
begun_in l (Some m) e entries s =
    if all_fit l.subtype s.store.heap m.params (args_of e)
    then Next (record s { frames = entered m e.args ∷ []; entries = entries })
    else Ended (Unfit e.number) s

abbrev pub begun_by : Linked → Prepared → Entry → List Entry → State → Turn
begun_by l p e entries s =
    if p.fit then begun_in l (entry_method l e p.heap) e entries (with_heap p.heap s) else Ended (Unfit e.number) (with_heap p.heap s)

abbrev pub begun : Linked → List Frame → List Entry → State → Turn
begun l [] [] s = Ended Done s
begun l [] (e ∷ entries) s = begun_by l (prepared l e.acts s.store.heap) e entries s
begun l (f ∷ outer) entries s = Next s

abbrev pub and_then : Turn → (State → Turn) → Turn
and_then (Next s) go = go s
and_then (Ended outcome s) go = Ended outcome s

-- an entry begins where none is active, and then one instruction is made
abbrev pub turn : Linked → State → Turn
turn l s = and_then (begun l s.frames s.entries s) (λ t. step l t.frames t)

-- ---- a run

abbrev pub report : Outcome → State → Report
report outcome s = record { notes = s.notes; statics = s.store.statics; heap = s.store.heap; outcome = outcome; spent = s.spent }

-- the outcome where no instruction is left to spend
abbrev pub idle : List Frame → List Entry → Outcome
idle [] [] = Done
idle [] (e ∷ entries) = Running
idle (f ∷ outer) entries = Running

abbrev pub settled : Turn → (State → Report) → Report
settled (Next s) go = go s
settled (Ended outcome s) go = report outcome s

abbrev pub run_from : Linked → ℕ → State → Report
run_from l zero s = report (idle s.frames s.entries) s
run_from l (suc n) s = settled (turn l s) (run_from l n)

abbrev pub start : Linked → Script → State
start l script = record {
  frames = [];
  store = record { heap = l.heap; statics = l.statics };
  entries = script.entries;
  answers = script.answers;
  notes = [];
  spent = 0;
}

-- The run of n instructions.
abbrev pub run : Linked → Script → ℕ → Report
run l script n = run_from l n (start l script)
