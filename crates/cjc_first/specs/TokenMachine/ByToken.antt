-- The run of components by token, on words of 16 bits (Java Card Virtual Machine Specification 2.2.2, chapters 3, 4, 6 and 7).
use Rattle.std.specs.Prelude.{ℕ, zero, suc, ◌+◌, ◌-◌, ◌*◌, ◌/◌, List, [], ◌∷◌, ◌++◌, length, take, drop, map, reverse, replicate, Option, Some, None, Bool, true, false, nat_lt, nat_le, ◌==◌, ◌&&◌, if◌then◌else◌, slice_get, slice_set, ℤ, pos, negsuc, codes, option_map}
use Rattle.std.specs.Int.{w8, w16, w32, cast_signed}
use Rattle.cjc_bytes.specs.declared.fault.MemberId.{MemberId}
use Rattle.cjc_capread.specs.declared.tree.ClassRef.{ClassRef}
use Rattle.cjc_capread.specs.declared.tree.Handler.{Handler}
use Rattle.cjc_capread.specs.ClassRefs.{same_class}
use Rattle.cjc_script.specs.declared.value.Value.{Value}
use Rattle.cjc_script.specs.declared.value.Value.TheVariants as values
use Rattle.cjc_script.specs.declared.script.Act.{Act}
use Rattle.cjc_script.specs.declared.script.Act.TheVariants as acts
use Rattle.cjc_script.specs.declared.script.Entry.{Entry}
use Rattle.cjc_script.specs.declared.script.Reply.{Reply}
use Rattle.cjc_script.specs.declared.script.Reply.TheVariants.{Give, Throw}
use Rattle.cjc_script.specs.declared.script.Answer.{Answer}
use Rattle.cjc_script.specs.declared.script.Script.{Script}
use Rattle.cjc_script.specs.declared.report.FieldValue.{FieldValue}
use Rattle.cjc_script.specs.declared.report.Thing.{Thing as ReportThing}
use Rattle.cjc_script.specs.declared.report.Thing.TheVariants as things
use Rattle.cjc_script.specs.declared.report.Note.{Note}
use Rattle.cjc_script.specs.declared.report.Note.TheVariants as notes
use Rattle.cjc_script.specs.declared.report.Outcome.{Outcome}
use Rattle.cjc_script.specs.declared.report.Outcome.TheVariants.{Done, Running, Waiting, Unfit, Stuck}
use Rattle.cjc_script.specs.declared.report.Report.{Report}
use Rattle.cjc_first.specs.Scripts.Types.{Sort, Boolean, Byte, Short, Int, Reference, NoValue, Signature, signature, sort_of, element_of}
use Rattle.cjc_first.specs.Scripts.Fits.{fits, all_fit, result_fits}
use Rattle.cjc_first.specs.TokenMachine.Cells.{Cell, Word, Null, Obj, Element, Booleans, Bytes, Shorts, Ints, Slot, Thing, Numbers, References, Object, Store, NullPointer}
use Rattle.cjc_first.specs.TokenMachine.Rows.{Deed, Go, Raise, Toss, Invoke, Leave, Stick, Fetched, fetch}
use Rattle.cjc_first.specs.TokenMachine.Naming.{FieldName, Callee, Within, Imported, AtOnce, Begun, Loaded}

-- ---- states

-- A method under way: the greatest height of its stack, where its code begins and ends, the offset of the instruction that is
-- next or under way, the offset behind its call, its operands with the top first, and its locals.
pub record Frame : Type 0 where
  pub room : ℕ
  pub first : ℕ
  pub end : ℕ
  pub at : ℕ
  pub behind : ℕ
  pub stack : List Cell
  pub locals : List (Option Cell)

-- the frames with the innermost first, the entries and answers that are left, what was noted, and how many instructions were run
pub record State : Type 0 where
  pub frames : List Frame
  pub store : Store
  pub entries : List Entry
  pub answers : List Answer
  pub notes : List Note
  pub spent : ℕ

-- ---- names of what the machine holds

abbrev pub value_of : Cell → Value
value_of (Word z) = values.Num z
value_of Null = values.Null
value_of (Obj k) = values.Obj k

abbrev pub cell_of : Value → Cell
cell_of (values.Num z) = Word z
cell_of values.Null = Null
cell_of (values.Obj k) = Obj k

abbrev pub array_name : Element → List ℕ
array_name Booleans = codes "[Z"
array_name Bytes = codes "[B"
array_name Shorts = codes "[S"
array_name Ints = codes "[I"

-- what a field of this type holds at first
abbrev pub zero_of : Sort → Value
zero_of (Reference name) = values.Null
zero_of kind = values.Num (pos 0)

-- what an object holds under a field's token
abbrev pub slot_value : List Slot → FieldName → Value
slot_value [] f = zero_of (sort_of f.id.desc)
slot_value (s ∷ slots) f =
    if same_class s.class f.class && (s.token == f.token) then value_of s.value else slot_value slots f

abbrev pub named_fields : List FieldName → List Slot → List FieldValue
named_fields fields slots = map (λ f. record { field = f.id; value = slot_value slots f }) fields

abbrev pub named_thing : Loaded → Thing → ReportThing
named_thing l (Numbers element items) = things.Array (array_name element) (map (λ z. values.Num z) items)
named_thing l (References class items) = things.Array (codes "[L" ++ l.name_of class ++ codes ";") (map value_of items)
named_thing l (Object class slots) = things.Object (l.name_of class) (named_fields (l.naming.fields class) slots)

abbrev pub named_heap : Loaded → List Thing → List ReportThing
named_heap l heap = map (named_thing l) heap

-- the static cell at an offset, by its type: the reference cells of two bytes stand first
abbrev pub cell_or_null : Option Cell → Value
cell_or_null None = values.Null
cell_or_null (Some c) = value_of c

abbrev pub number_at : Sort → List ℕ → ℤ
number_at Short (a ∷ b ∷ bytes) = cast_signed w16 (256 * a + b)
number_at Int (a ∷ b ∷ c ∷ d ∷ bytes) = cast_signed w32 (16777216 * a + 65536 * b + 256 * c + d)
number_at kind (a ∷ bytes) = cast_signed w8 a
number_at kind [] = pos 0

abbrev pub static_value : Store → Sort → ℕ → Value
static_value s (Reference name) offset = cell_or_null (slice_get s.references (offset / 2))
static_value s kind offset = values.Num (number_at kind (drop (offset - 2 * length s.references) s.bytes))

abbrev pub named_cells : Loaded → Store → List FieldValue
named_cells l s = map (λ c. record { field = c.id; value = static_value s (sort_of c.id.desc) c.offset }) l.naming.cells

-- ---- turns

-- what a turn leaves: a state to go on from, or the end
pub data Turn : Type 0 where
  Next : (state : State) → Turn
  Ended : (outcome : Outcome) (state : State) → Turn

abbrev pub stuck : Frame → State → Turn
stuck f s = Ended (Stuck f.at) s

-- In table order; a handler that covers the offset and does not take the class ends the search where its stop bit is 1.
abbrev pub covers : Handler → ℕ → Bool
covers h at = nat_le h.start at && nat_lt at (h.start + h.length)

abbrev pub handler : Loaded → List Handler → (at : ℕ) → ClassRef → Option ℕ
handler l [] at class = None
handler l (h ∷ handlers) at class =
    if covers h at
    then (if l.catches h.catch_index class then Some h.handler else (if h.stop then None else handler l handlers at class))
    else handler l handlers at class

-- an exception goes outwards to the first frame that handles it, and ends the entry where none does
abbrev pub caught_at : Option ℕ → Frame → List Frame → (object : ℕ) → State → Turn → Turn
caught_at (Some target) f outer object s past =
    Next (record s { frames = record f { at = target; stack = Obj object ∷ [] } ∷ outer })
caught_at None f outer object s past = past

abbrev pub caught : Loaded → List Frame → (object : ℕ) → ClassRef → State → Turn
caught l [] object class s = Next (record s { frames = []; notes = s.notes ++ notes.Thrown (l.name_of class) object ∷ [] })
caught l (f ∷ outer) object class s =
    caught_at (handler l l.handlers f.at class) f outer object s (caught l outer object class s)

abbrev pub with_thing : Thing → State → State
with_thing thing s = record s { store = record s.store { heap = s.store.heap ++ thing ∷ [] } }

-- an object of the class is made and thrown
abbrev pub raised : Loaded → List Frame → ClassRef → State → Turn
raised l frames class s = caught l frames (length s.store.heap) class (with_thing (Object class []) s)

abbrev pub raised_if : Loaded → Option ClassRef → Frame → List Frame → State → Turn
raised_if l None f outer s = stuck f s
raised_if l (Some class) f outer s = raised l (f ∷ outer) class s

abbrev pub tossed : Loaded → Option Thing → Frame → List Frame → (object : ℕ) → State → Turn
tossed l (Some (Object class slots)) f outer object s = caught l (f ∷ outer) object class s
tossed l thing f outer object s = stuck f s

-- a result goes to the frame that called, where its stack has room, and notes the end of an entry where none did
abbrev pub returned_to : Option Cell → Frame → List Frame → State → Turn
returned_to None f outer s = Next (record s { frames = record f { at = f.behind } ∷ outer })
returned_to (Some v) f outer s =
    if nat_lt (length f.stack) f.room
    then Next (record s { frames = record f { at = f.behind; stack = v ∷ f.stack } ∷ outer })
    else stuck f s

abbrev pub returned : List Frame → Option Cell → State → Turn
returned [] v s = Next (record s { frames = []; notes = s.notes ++ notes.Result (option_map value_of v) ∷ [] })
returned (f ∷ outer) v s = returned_to v f outer s

-- a frame that begins: its arguments are its first locals
abbrev pub entered : Begun → List Cell → Frame
entered m args = record {
  room = m.max_stack;
  first = m.first;
  end = m.end;
  at = m.first;
  behind = m.first;
  stack = [];
  locals = map Some args ++ replicate m.max_locals None;
}

-- ---- acts of the script

abbrev pub item_zero : ℕ → List ℤ
item_zero n = replicate n (pos 0)

abbrev pub array_of_class : Option ClassRef → ℕ → Option Thing
array_of_class None n = None
array_of_class (Some class) n = Some (References class (replicate n Null))

abbrev pub array_with : Loaded → Sort → ℕ → Option Thing
array_with l Boolean n = Some (Numbers Booleans (item_zero n))
array_with l Byte n = Some (Numbers Bytes (item_zero n))
array_with l Short n = Some (Numbers Shorts (item_zero n))
array_with l Int n = Some (Numbers Ints (item_zero n))
array_with l (Reference name) n = array_of_class (l.class_of name) n
array_with l NoValue n = None

abbrev pub element : List ℕ → Sort
element [] = NoValue
element (c ∷ name) = if c == 91 then element_of name else NoValue

abbrev pub array_of : Loaded → (desc : List ℕ) → ℤ → Option Thing
array_of l desc (negsuc n) = None
array_of l desc (pos n) = if nat_le n 32767 then array_with l (element desc) n else None

abbrev pub object_of : Option ClassRef → Option Thing
object_of None = None
object_of (Some class) = Some (Object class [])

abbrev pub grown : List Thing → Option Thing → Option (List Thing)
grown heap None = None
grown heap (Some thing) = Some (heap ++ thing ∷ [])

abbrev pub sort_with : Loaded → Thing → Sort
sort_with l (Numbers Booleans items) = Boolean
sort_with l (Numbers Bytes items) = Byte
sort_with l (Numbers Shorts items) = Short
sort_with l (Numbers Ints items) = Int
sort_with l (References class items) = Reference (l.name_of class)
sort_with l (Object class slots) = NoValue

abbrev pub with_item : Thing → (index : ℕ) → Value → Option Thing
with_item (Numbers element items) i (values.Num z) =
    if nat_lt i (length items) then Some (Numbers element (slice_set items i z)) else None
with_item (References class items) i v =
    if nat_lt i (length items) then Some (References class (slice_set items i (cell_of v))) else None
with_item thing i v = None

abbrev pub written : List Thing → (array : ℕ) → Option Thing → Option (List Thing)
written heap array None = None
written heap array (Some thing) = Some (slice_set heap array thing)

abbrev pub put_in : Loaded → List Thing → (array : ℕ) → Option Thing → ℤ → Value → Option (List Thing)
put_in l heap array (Some thing) (pos i) v =
    if fits l.subtype (named_heap l heap) (sort_with l thing) v then written heap array (with_item thing i v) else None
put_in l heap array thing i v = None

-- the heap after an act, where it fits
abbrev pub acted : Loaded → Act → List Thing → Option (List Thing)
acted l (acts.Array desc size) heap = grown heap (array_of l desc size)
acted l (acts.Object class) heap = grown heap (if l.is_imported class then object_of (l.class_of class) else None)
acted l (acts.Put array i v) heap = put_in l heap array (slice_get heap array) i v

-- the heap after acts in order, up to the first that does not fit
pub record Prepared : Type 0 where
  pub heap : List Thing
  pub fit : Bool

abbrev pub prepared_by : Option (List Thing) → List Thing → (List Thing → Prepared) → Prepared
prepared_by None heap go = record { heap = heap; fit = false }
prepared_by (Some heap) old go = go heap

abbrev pub prepared : Loaded → List Act → List Thing → Prepared
prepared l [] heap = record { heap = heap; fit = true }
prepared l (a ∷ acts) heap = prepared_by (acted l a heap) heap (λ h. prepared l acts h)

abbrev pub with_heap : List Thing → State → State
with_heap heap s = record s { store = record s.store { heap = heap } }

-- ---- imported calls

abbrev pub thrown : Loaded → Option ClassRef → (number : ℕ) → List Frame → State → Turn
thrown l None number frames s = Ended (Unfit number) s
thrown l (Some class) number frames s = raised l frames class s

-- the answer gives a value of the result's type, or throws an object of an imported class
abbrev pub replied : Loaded → Reply → (number : ℕ) (result : Option Sort) → List Frame → State → Turn
replied l (Give v) number result frames s =
    if result_fits l.subtype (named_heap l s.store.heap) result v
    then returned frames (option_map cell_of v) s else Ended (Unfit number) s
replied l (Throw class) number result frames s =
    if l.is_imported class && l.subtype class (codes "java/lang/Throwable")
    then thrown l (l.class_of class) number frames s else Ended (Unfit number) s

abbrev pub answered_by : Loaded → Answer → (result : Option Sort) → List Frame → Prepared → State → Turn
answered_by l a result frames p s =
    if p.fit then replied l a.reply a.number result frames (with_heap p.heap s) else Ended (Unfit a.number) (with_heap p.heap s)

-- an imported call takes the next answer, after the answer's acts
abbrev pub answered : Loaded → List Answer → (result : Option Sort) → List Frame → State → Turn
answered l [] result frames s = Ended Waiting s
answered l (a ∷ answers) result frames s =
    answered_by l a result frames (prepared l a.acts s.store.heap) (record s { answers = answers })

abbrev pub noted : Loaded → MemberId → Option Signature → List Cell → (caller g : Frame) → List Frame → State → Turn
noted l id None args f g outer s = stuck f s
noted l id (Some types) args f g outer s =
    answered l s.answers types.result (g ∷ outer)
    (record s { notes = s.notes ++ notes.Event id (map value_of args) ∷ [] })

-- ---- calls

abbrev pub called_at : Option Begun → List Cell → (caller g : Frame) → List Frame → State → Turn
called_at None args f g outer s = stuck f s
called_at (Some m) args f g outer s = Next (record s { frames = entered m args ∷ g ∷ outer })

abbrev pub reached : Loaded → Option Callee → List Cell → (caller g : Frame) → List Frame → State → Turn
reached l None args f g outer s = stuck f s
reached l (Some (Within offset)) args f g outer s = called_at (l.begun offset) args f g outer s
reached l (Some (Imported id)) args f g outer s = noted l id (signature id.desc) args f g outer s
reached l (Some AtOnce) args f g outer s = returned (g ∷ outer) None s

-- the class of an object; an array counts as the root of all classes
abbrev pub class_in : Loaded → Option Thing → Option ClassRef
class_in l None = None
class_in l (Some (Object class slots)) = Some class
class_in l (Some thing) = l.class_of (codes "java/lang/Object")

-- with the receiver first, which must not be null
abbrev pub dispatched : Loaded → (op : ℕ) (operands : List ℤ) → List Cell → (caller g : Frame) → List Frame → State → Turn
dispatched l op operands (Obj k ∷ args) f g outer s =
    reached l (l.called op operands (class_in l (slice_get s.store.heap k))) (Obj k ∷ args) f g outer s
dispatched l op operands (Null ∷ args) f g outer s = raised_if l (l.fault NullPointer) f outer s
dispatched l op operands args f g outer s = stuck f s

-- so many operands, the last on top
abbrev pub counted : Option ℕ → Frame → State → (List Cell → Frame → Turn) → Turn
counted None f s go = stuck f s
counted (Some n) f s go =
    if nat_le n (length f.stack)
    then go (reverse (take n f.stack)) (record f { stack = drop n f.stack })
    else stuck f s

abbrev pub invoked : Loaded → (op : ℕ) (operands : List ℤ) → Frame → List Frame → State → Turn
invoked l op operands f outer s =
    -- invokestatic has no receiver
    counted (l.nargs op operands) f s (λ args g.
    if op == 0x8D then reached l (l.called op operands None) args f g outer s else dispatched l op operands args f g outer s)

-- ---- the machine

abbrev pub done : Loaded → Deed → (next : ℕ) → Frame → List Frame → State → Turn
done l (Go at stack locals store) next f outer s =
    Next (record s { frames = record f { at = at; stack = stack; locals = locals } ∷ outer; store = store })
done l (Raise fault) next f outer s = raised_if l (l.fault fault) f outer s
done l (Toss object) next f outer s = tossed l (slice_get s.store.heap object) f outer object s
done l (Invoke op operands) next f outer s = invoked l op operands (record f { behind = next }) outer s
done l (Leave v) next f outer s = returned outer v s
done l Stick next f outer s = stuck f s

-- the instruction lies inside the code of its method
abbrev pub is_inside : Frame → (size : ℕ) → Bool
is_inside f size = nat_le f.first f.at && nat_le (f.at + size) f.end

abbrev pub executed : Loaded → Option Fetched → Frame → List Frame → State → Turn
executed l None f outer s = stuck f s
executed l (Some i) f outer s =
    if is_inside f i.size
    then done l (i.does f.room (f.at + i.size) f.locals s.store f.stack) (f.at + i.size) f outer s
    else stuck f s

-- an instruction counts as spent where the machine has it
abbrev pub spend : State → State
spend s = record s { spent = s.spent + 1 }

abbrev pub spending : Outcome → State → State
spending (Stuck at) s = s
spending outcome s = spend s

abbrev pub spend_in : Turn → Turn
spend_in (Next s) = Next (spend s)
spend_in (Ended outcome s) = Ended outcome (spending outcome s)

-- one instruction, fetched at the frame's offset
abbrev pub step : Loaded → List Frame → State → Turn
step l [] s = Ended (Stuck 0) s
step l (f ∷ outer) s = spend_in (executed l (fetch (l.from f.at)) f outer s)

abbrev pub receiver_in : Loaded → MemberId → Option ClassRef → Option ℕ
receiver_in l id None = None
receiver_in l id (Some class) = l.sent class id

abbrev pub selected_in : Loaded → MemberId → List Thing → List Value → Option ℕ
selected_in l id heap (values.Obj k ∷ args) = receiver_in l id (class_in l (slice_get heap k))
selected_in l id heap args = None

-- the offset of the method that an entry names
abbrev pub entry_offset : Loaded → Entry → List Thing → Option ℕ
entry_offset l e heap = if e.virtual_call then selected_in l e.method heap e.args else l.entry e.method

abbrev pub args_of : Entry → List Value
args_of e = if e.virtual_call then drop 1 e.args else e.args

abbrev pub args_fit : Loaded → List Thing → Option Signature → List Value → Bool
args_fit l heap None args = false
args_fit l heap (Some types) args = all_fit l.subtype (named_heap l heap) types.params args

-- the next entry begins, if it fits
abbrev pub begun_at : Loaded → Option Begun → Entry → List Entry → State → Turn
begun_at l None e entries s = Ended (Unfit e.number) s
begun_at l (Some m) e entries s =
    if args_fit l s.store.heap (signature e.method.desc) (args_of e)
    then Next (record s { frames = entered m (map cell_of e.args) ∷ []; entries = entries })
    else Ended (Unfit e.number) s

abbrev pub begun_in : Loaded → Option ℕ → Entry → List Entry → State → Turn
begun_in l None e entries s = Ended (Unfit e.number) s
begun_in l (Some offset) e entries s = begun_at l (l.begun offset) e entries s

abbrev pub begun_by : Loaded → Prepared → Entry → List Entry → State → Turn
begun_by l p e entries s =
    if p.fit then begun_in l (entry_offset l e p.heap) e entries (with_heap p.heap s) else Ended (Unfit e.number) (with_heap p.heap s)

abbrev pub begun : Loaded → List Frame → List Entry → State → Turn
begun l [] [] s = Ended Done s
begun l [] (e ∷ entries) s = begun_by l (prepared l e.acts s.store.heap) e entries s
begun l (f ∷ outer) entries s = Next s

abbrev pub and_then : Turn → (State → Turn) → Turn
and_then (Next s) go = go s
and_then (Ended outcome s) go = Ended outcome s

-- an entry begins where none is active, and then one instruction is made
abbrev pub turn : Loaded → State → Turn
turn l s = and_then (begun l s.frames s.entries s) (λ t. step l t.frames t)

-- ---- a run

abbrev pub report : Loaded → Outcome → State → Report
report l outcome s = record {
  notes = s.notes;
  statics = named_cells l s.store;
  heap = named_heap l s.store.heap;
  outcome = outcome;
  spent = s.spent;
}

-- the outcome where no instruction is left to spend
abbrev pub idle : List Frame → List Entry → Outcome
idle [] [] = Done
idle [] (e ∷ entries) = Running
idle (f ∷ outer) entries = Running

abbrev pub settled : Loaded → Turn → (State → Report) → Report
settled l (Next s) go = go s
settled l (Ended outcome s) go = report l outcome s

abbrev pub run_from : Loaded → ℕ → State → Report
run_from l zero s = report l (idle s.frames s.entries) s
run_from l (suc n) s = settled l (turn l s) (run_from l n)

abbrev pub start : Loaded → Script → State
start l script = record {
  frames = [];
  store = l.store;
  entries = script.entries;
  answers = script.answers;
  notes = [];
  spent = 0;
}

-- The run of n instructions.
abbrev pub run : Loaded → Script → ℕ → Report
run l script n = run_from l n (start l script)
