-- The machine by name: frames, exceptions, calls, scripts and runs over a record of look-ups. Its instructions are
-- those of class files; it shares none with the card's machine.
use Rattle.std.specs.Prelude.{ℕ, ◌+◌, ◌-◌, List, [], ◌∷◌, ◌++◌, length, take, drop, map, reverse, replicate, Option}
use Rattle.std.specs.Prelude.{Some, None, option_map, Bool, true, false, nat_lt, nat_le, ◌&&◌, if◌then◌else◌, slice_get}
use Rattle.std.specs.Prelude.{slice_set, ℤ, pos, negsuc, codes}
use Rattle.std.specs.Str.{bytes_eq}
use Rattle.cjc_code.specs.Bytes.declared.fault.MemberId.{MemberId}
use Rattle.cjc_code.specs.ClassFile.declared.tree.Catch.{Catch}
use Rattle.cjc_code.specs.declared.insn.JInsn.{JInsn}
use Rattle.cjc_script.specs.declared.value.Value.{Value}
use Rattle.cjc_script.specs.declared.value.Value.TheVariants.{Null, Obj}
use Rattle.cjc_script.specs.declared.script.Act.{Act}
use Rattle.cjc_script.specs.declared.script.Act.TheVariants as acts
use Rattle.cjc_script.specs.declared.script.Entry.{Entry}
use Rattle.cjc_script.specs.declared.script.Reply.{Reply}
use Rattle.cjc_script.specs.declared.script.Reply.TheVariants.{Give, Throw}
use Rattle.cjc_script.specs.declared.script.Answer.{Answer}
use Rattle.cjc_script.specs.declared.script.Script.{Script}
use Rattle.cjc_script.specs.declared.report.Thing.{Thing}
use Rattle.cjc_script.specs.declared.report.Thing.TheVariants.{Array, Object}
use Rattle.cjc_script.specs.declared.report.Note.{Note}
use Rattle.cjc_script.specs.declared.report.Note.TheVariants.{Event, Result, Thrown}
use Rattle.cjc_script.specs.declared.report.Outcome.{Outcome}
use Rattle.cjc_script.specs.declared.report.Outcome.TheVariants.{Done, Running, Waiting, Unfit, Stuck}
use Rattle.cjc_script.specs.declared.report.Report.{Report}
use Rattle.cjc_script.specs.Sorts.{Shape, OfClass, OfNumbers, OfReferences, Sort, Reference, NoValue, Signature}
use Rattle.cjc_script.specs.Sorts.{shape_named, shape_name, signature_of, element_sort, zero_of, fits, all_fit}
use Rattle.cjc_script.specs.Sorts.{result_fits}
use Rattle.cjc_card_semantics.specs.Bytecode.Runs.{Move, On, Over, Device}
use Rattle.cjc_card_semantics.specs.Bytecode.Runs
use Rattle.cjc_jvm_semantics.specs.Linked.{Method, Callee, Inside, Abroad, Call, OnClass, OnObject, Linked}
use Rattle.cjc_jvm_semantics.specs.Effects.{Fault, NullPointer, exception_class, Store, type_of, is_kind, place, Effect}
use Rattle.cjc_jvm_semantics.specs.Effects.{Go, Raise, Toss, Invoke, Leave, Stick, effect}

-- ---- states

-- a method under way: the place of the instruction that is next or under way in its list, its operands with the top
-- first, its locals
pub record Frame : Type 0 where
  pub method : Method
  pub at : ℕ
  pub stack : List Value
  pub locals : List (Option Value)

-- the frames with the innermost first, the entries and answers that are left, what was noted, and how many instructions
-- were run
pub record State : Type 0 where
  pub frames : List Frame
  pub store : Store
  pub entries : List Entry
  pub answers : List Answer
  pub notes : List Note
  pub spent : ℕ

-- what a state makes known
abbrev pub report : Outcome → State → Report
report o s = record {
  notes = s.notes;
  statics = (let store = s.store in store.statics);
  heap = (let store = s.store
      in store.heap);
  outcome = o;
  spent = s.spent;
}

-- the arrays and objects
abbrev pub heap_of : State → List Thing
heap_of s = let store = s.store in store.heap

-- other arrays and objects
abbrev pub with_heap : List Thing → State → State
with_heap heap s = record s { store = record s.store { heap = heap } }

-- one array or object more
abbrev pub with_last : Thing → State → State
with_last thing s = with_heap (heap_of s ++ thing ∷ []) s

-- one note more
abbrev pub with_note : Note → State → State
with_note note s = record s { notes = s.notes ++ note ∷ [] }

-- other frames
abbrev pub with_frames : List Frame → State → State
with_frames frames s = record s { frames = frames }

-- the offset of an instruction, and 0 where none stands at the place, as in an abstract method
abbrev pub offset_of : Option JInsn → ℕ
offset_of None = 0
offset_of (Some i) = i.at

-- the offset of the instruction that is next or under way
abbrev pub offset : Frame → ℕ
offset f = let m = f.method in offset_of (slice_get m.insns f.at)

-- the class that holds a frame's code
abbrev pub holder_of : Frame → List ℕ
holder_of f = let m = f.method in let id = m.id in id.class

-- the greatest height of a frame's stack
abbrev pub room : Frame → ℕ
room f = let m = f.method in m.max_stack

-- no row applies at this offset
abbrev pub stuck_at : (from : ℕ) → State → Move State
stuck_at from s = Over (report (Stuck from) s)

-- a method that begins: its arguments are its first locals
abbrev pub frame_for_call : Method → List Value → Frame
frame_for_call m args =
    record {
      method = m;
      at = 0;
      stack = [];
      locals = map (λ v. Some v) args ++ replicate (m.max_locals - length args)
          None;
    }

-- a frame whose call is behind it, with these values more
abbrev pub behind_call : List Value → Frame → Frame
behind_call values f = record f { at = f.at + 1; stack = values ++ f.stack }

-- none or one
abbrev pub values_of : Option Value → List Value
values_of None = []
values_of (Some v) = v ∷ []

-- a result goes to the frame that called, where its stack has room
abbrev pub after_result : (from : ℕ) → Option Value → Frame → List Frame → State → Move State
after_result from v f outer s =
    if nat_le (length (values_of v ++ f.stack)) (room f) then On (with_frames (behind_call (values_of v) f ∷ outer) s)
    else stuck_at from s

-- java/lang/Object.<init>()V is no event and returns at once
abbrev pub is_at_once : MemberId → Bool
is_at_once id = bytes_eq id.class (codes "java/lang/Object") && (bytes_eq id.name (codes "<init>")
    && bytes_eq id.desc (codes "()V"))

-- ---- operands by the sorts of a signature

-- a number for a type of numbers, a reference for a class or array; no value is of a type without values
abbrev pub is_of_sort : Sort → Value → Bool
is_of_sort (Reference shape) v = is_kind true v
is_of_sort NoValue v = false
is_of_sort type v = is_kind false v

-- as many values as types, each of its sort
abbrev pub are_of_sorts : List Sort → List Value → Bool
are_of_sorts [] [] = true
are_of_sorts (type ∷ types) (v ∷ values) = is_of_sort type v && are_of_sorts types values
are_of_sorts types values = false

module _ (l : Linked) where
  -- ---- exceptions

  -- a handler takes any exception, or those of its class
  abbrev pub takes : (holder : List ℕ) → Option (List ℕ) → (type : List ℕ) → Bool
  takes holder None type = true
  takes holder (Some class) type = l.subtype (Some holder) type class

  -- the target of the first handler that covers the offset and takes the exception
  abbrev pub handler : (holder : List ℕ) → List Catch → (offset : ℕ) → (type : List ℕ) → Option ℕ
  handler holder [] offset type = None
  handler holder (c ∷ catches) offset type =
      if nat_le c.start offset && nat_lt offset c.end && takes holder c.class type then Some c.target
      else handler holder catches offset type

  -- of a frame
  abbrev pub handler_in : Frame → (type : List ℕ) → Option ℕ
  handler_in f type = handler (holder_of f) (let m = f.method in m.catches) (offset f) type

  -- An exception goes outwards to the first frame that handles it, which has room for a word, and ends the entry where
  -- none does. `from` is where the state is stuck.
  abbrev pub at_handler : Option ℕ → (from : ℕ) → Frame → List Frame → (object : ℕ) → State → Move State → Move State
  at_handler (Some target) from f outer object s past =
      if nat_lt 0 (room f)
      then On (with_frames (record f { at = place (let m = f.method in m.insns) target; stack = Obj object ∷ [] }
      ∷ outer) s)
      else stuck_at from s
  at_handler None from f outer object s past = past

  -- from the innermost frame outwards
  abbrev pub after_throw : (from : ℕ) → List Frame → (object : ℕ) (type : List ℕ) → State → Move State
  after_throw from [] object type s = On (with_frames [] (with_note (Thrown type object) s))
  after_throw from (f ∷ outer) object type s = at_handler (handler_in f type) from f outer object s
      (after_throw from outer object type s)

  -- an object of the class, without fields, is made and thrown
  abbrev pub after_raise : (class : List ℕ) → Frame → List Frame → State → Move State
  after_raise class f outer s = after_throw (offset f) (f ∷ outer) (length (heap_of s)) class
      (with_last (Object class []) s)

  -- an exception of the machine's own
  abbrev pub after_fault : Fault → Frame → List Frame → State → Move State
  after_fault fault f outer s = after_raise (exception_class fault) f outer s

  -- the array or object of this number is thrown
  abbrev pub after_athrow : Option Thing → Frame → List Frame → (object : ℕ) → State → Move State
  after_athrow None f outer object s = stuck_at (offset f) s
  after_athrow (Some thing) f outer object s = after_throw (offset f) (f ∷ outer) object (type_of thing) s

  -- ---- what fits

  -- the array or object of this number is of a type
  abbrev pub is_of : Option Thing → (type : List ℕ) → Bool
  is_of None type = false
  is_of (Some thing) type = l.subtype None (type_of thing) type

  -- the same by the type's shape
  abbrev pub object_fits : List Thing → ℕ → Shape (List ℕ) → Bool
  object_fits heap k shape = is_of (slice_get heap k) (shape_name shape)

  -- ---- acts of the script

  -- what an array of this type holds, where its class is there
  abbrev pub item_sort : Option (Shape (List ℕ)) → Option Sort
  item_sort (Some (OfNumbers element)) = Some (element_sort element)
  item_sort (Some (OfReferences class)) = if l.is_there None class then Some (Reference (OfClass class)) else None
  item_sort shape = None

  -- an array of zeros or nulls
  abbrev pub array_with : (desc : List ℕ) → ℕ → Option Sort → Option Thing
  array_with desc n None = None
  array_with desc n (Some sort) = Some (Array desc (replicate n (zero_of sort)))

  -- of 0 to 32,767 elements
  abbrev pub array_of : (desc : List ℕ) → ℤ → Option Thing
  array_of desc (pos n) = if nat_le n 32767 then array_with desc n (item_sort (shape_named desc)) else None
  array_of desc (negsuc n) = None

  -- an item that is there is replaced by a value that fits
  abbrev pub item_put : List Thing → (desc : List ℕ) → List Value → ℕ → Value → Option Sort → Option Thing
  item_put heap desc items i v None = None
  item_put heap desc items i v (Some sort) =
      if nat_lt i (length items) && fits (object_fits heap) sort v then Some (Array desc (slice_set items i v))
      else None

  -- in an array of the heap
  abbrev pub put_in : List Thing → Option Thing → ℤ → Value → Option Thing
  put_in heap (Some (Array desc items)) (pos i) v = item_put heap desc items i v (item_sort (shape_named desc))
  put_in heap thing i v = None

  -- the heap after an act, where that fits
  abbrev pub heap_after_act : Act → List Thing → Option (List Thing)
  heap_after_act (acts.Array desc size) heap = option_map (λ thing. heap ++ thing ∷ []) (array_of desc size)
  heap_after_act (acts.Object class) heap = if l.is_imported class then Some (heap ++ Object class [] ∷ []) else None
  heap_after_act (acts.Put array i v) heap = option_map (slice_set heap array) (put_in heap (slice_get heap array) i v)

  -- acts in order, up to the first that does not fit, and then what follows
  abbrev pub after_act : Option (List Thing) → (number : ℕ) → State → (State → Move State) → Move State
  after_act None number s go = Over (report (Unfit number) s)
  after_act (Some heap) number s go = go (with_heap heap s)

  -- acts, and what follows them
  abbrev pub after_acts : List Act → (number : ℕ) → State → (State → Move State) → Move State
  after_acts [] number s go = go s
  after_acts (a ∷ acts) number s go = after_act (heap_after_act a (heap_of s)) number s (λ t. after_acts acts number t
      go)

  -- ---- imported calls

  -- a value that fits the result, or an imported class that is java/lang/Throwable or below it
  abbrev pub after_reply : Reply → (number : ℕ) → (result : Option Sort) → Frame → List Frame → State → Move State
  after_reply (Give v) number result f outer s =
      if result_fits (object_fits (heap_of s)) result v then after_result (offset f) v f outer s
      else Over (report (Unfit number) s)
  after_reply (Throw class) number result f outer s =
      if l.is_imported class && l.subtype None class (codes "java/lang/Throwable") then after_raise class f outer s
      else Over (report (Unfit number) s)

  -- the next answer, after its acts
  abbrev pub after_answer : List Answer → (result : Option Sort) → Frame → List Frame → State → Move State
  after_answer [] result f outer s = Over (report Waiting s)
  after_answer (a ∷ answers) result f outer s =
      after_acts a.acts a.number (record s { answers = answers }) (λ t. after_reply a.reply a.number result f outer t)

  -- an imported method: its event, and then the next answer
  abbrev pub imported_call : MemberId → (result : Option Sort) → List Value → Frame → List Frame → State → Move State
  imported_call id result args f outer s =
      if is_at_once id then after_result (offset f) None f outer s
      else after_answer s.answers result f outer (with_note (Event id args) s)

  -- ---- calls

  -- what a call reaches; an abstract method is stuck at the call
  abbrev pub at_callee : Option Callee → (result : Option Sort) → List Value → Frame → List Frame → State → Move State
  at_callee None result args f outer s = stuck_at (offset f) s
  at_callee (Some (Inside m)) result args f outer s =
      if m.is_abstract then stuck_at (offset f) s else On (with_frames (frame_for_call m args ∷ f ∷ outer) s)
  at_callee (Some (Abroad id)) result args f outer s = imported_call id result args f outer s

  -- by the array or object of the receiver
  abbrev pub at_selected : (List ℕ → Option Callee) → Option Thing → (result : Option Sort) → List Value → Frame
      → List Frame → State → Move State
  at_selected selected None result args f outer s = stuck_at (offset f) s
  at_selected selected (Some thing) result args f outer s = at_callee (selected (type_of thing)) result args f outer s

  -- the receiver is below the arguments; null raises
  abbrev pub on_receiver : (List ℕ → Option Callee) → List Value → (result : Option Sort) → List Value → Frame
      → List Frame → State → Move State
  on_receiver selected (Obj k ∷ stack) result args f outer s =
      at_selected selected (slice_get (heap_of s) k) result (Obj k ∷ args) (record f { stack = stack }) outer s
  on_receiver selected (Null ∷ stack) result args f outer s = after_fault NullPointer f outer s
  on_receiver selected stack result args f outer s = stuck_at (offset f) s

  -- with its arguments, the first first, which have left the stack
  abbrev pub at_call : Call → (result : Option Sort) → List Value → Frame → List Frame → State → Move State
  at_call (OnClass callee) result args f outer s = at_callee (Some callee) result args f outer s
  at_call (OnObject selected) result args f outer s = on_receiver selected f.stack result args f outer s

  -- as many operands as parameters, each of its sort
  abbrev pub with_types : Call → Option Signature → Frame → List Frame → State → Move State
  with_types call None f outer s = stuck_at (offset f) s
  with_types call (Some types) f outer s =
      let n = length types.params in
      let args = reverse (take n f.stack) in
      if are_of_sorts types.params args
      then at_call call types.result args (record f { stack = drop n f.stack }) outer s
      else stuck_at (offset f) s

  -- the member is found first
  abbrev pub after_lookup : Option Call → MemberId → Frame → List Frame → State → Move State
  after_lookup None id f outer s = stuck_at (offset f) s
  after_lookup (Some call) id f outer s = with_types call (signature_of id.desc) f outer s

  -- a method returns to the frame that called, or ends its entry
  abbrev pub after_return : Option Value → Frame → List Frame → State → Move State
  after_return v f [] s = On (with_frames [] (with_note (Result v) s))
  after_return v f (g ∷ outer) s = after_result (offset f) v g outer s

  -- ---- a turn

  -- what follows from an effect
  abbrev pub after_effect : Effect → Frame → List Frame → State → Move State
  after_effect (Go at stack locals store) f outer s =
      On (record s { frames = record f { at = at; stack = stack; locals = locals } ∷ outer; store = store })
  after_effect (Raise fault) f outer s = after_fault fault f outer s
  after_effect (Toss object) f outer s = after_athrow (slice_get (heap_of s) object) f outer object s
  after_effect (Invoke op id) f outer s = after_lookup (l.call (holder_of f) op id) id f outer s
  after_effect (Leave v) f outer s = after_return v f outer s
  after_effect Stick f outer s = stuck_at (offset f) s

  -- the instruction at a frame's place
  abbrev pub after_fetch : Option JInsn → Frame → List Frame → State → Move State
  after_fetch None f outer s = stuck_at (offset f) s
  after_fetch (Some i) f outer s = after_effect (effect l f.method f.at f.locals s.store i.op f.stack) f outer s

  -- an instruction that is stuck is not spent
  abbrev pub spend_unless_stuck : Outcome → Report → Report
  spend_unless_stuck (Stuck at) r = r
  spend_unless_stuck o r = record r { spent = r.spent + 1 }

  -- one instruction more is spent
  abbrev pub spend : Move State → Move State
  spend (On s) = On (record s { spent = s.spent + 1 })
  spend (Over r) = Over (spend_unless_stuck r.outcome r)

  -- one instruction of the innermost frame
  abbrev pub step : List Frame → State → Move State
  step [] s = Over (report Done s)
  step (f ∷ outer) s = spend (after_fetch (let m = f.method in slice_get m.insns f.at) f outer s)

  -- ---- entries

  -- the method that is sent to an array or object
  abbrev pub sent_to : Option Thing → MemberId → Option Method
  sent_to None id = None
  sent_to (Some thing) id = l.sent (type_of thing) id

  -- to the first of these values
  abbrev pub sent_on : List Thing → MemberId → List Value → Option Method
  sent_on heap id (Obj k ∷ args) = sent_to (slice_get heap k) id
  sent_on heap id args = None

  -- the method that an entry names
  abbrev pub entry_method : List Thing → Entry → Option Method
  entry_method heap e = if e.virtual_call then sent_on heap e.method e.args else l.entry e.method

  -- the arguments behind the receiver
  abbrev pub arguments : Entry → List Value
  arguments e = if e.virtual_call then drop 1 e.args else e.args

  -- whether the arguments fit the parameters
  abbrev pub args_fit : List Thing → Entry → Option Signature → Bool
  args_fit heap e None = false
  args_fit heap e (Some types) = all_fit (object_fits heap) types.params (arguments e)

  -- an entry begins where its method is found and its arguments fit; an abstract method begins too
  abbrev pub entry_begins : Option Method → Bool → Entry → List Entry → State → Move State
  entry_begins (Some m) true e entries s = On (record s { frames = frame_for_call m e.args ∷ []; entries = entries })
  entry_begins m fit e entries s = Over (report (Unfit e.number) s)

  -- where no frame is, the next entry begins, after its acts
  abbrev pub begins : List Frame → List Entry → State → Move State
  begins [] [] s = Over (report Done s)
  begins [] (e ∷ entries) s =
      after_acts e.acts e.number s (λ t.
      entry_begins (entry_method (heap_of t) e) (args_fit (heap_of t) e (signature_of (let m = e.method in m.desc))) e
      entries t)
  begins (f ∷ outer) entries s = On s

  -- what follows where a move goes on
  abbrev pub and_then : Move State → (State → Move State) → Move State
  and_then (On s) go = go s
  and_then (Over r) go = Over r

  -- an entry begins where none is active, and then one instruction is made
  abbrev pub move : State → Move State
  move s = and_then (begins s.frames s.entries s) (λ t. step t.frames t)

  -- ---- a run

  -- the outcome where no instruction is left to spend
  abbrev pub idle : List Frame → List Entry → Outcome
  idle [] [] = Done
  idle [] (e ∷ entries) = Running
  idle (f ∷ outer) entries = Running

  -- the machine
  abbrev pub device : Device State
  device = record { move = move; rest = λ s. report (idle s.frames s.entries) s }

  -- the first state
  abbrev pub start : Script → State
  start script = record {
    frames = [];
    store = record { heap = l.heap; statics = l.statics };
    entries = script.entries;
    answers = script.answers;
    notes = [];
    spent = 0;
  }

  -- The run of n instructions.
  abbrev pub run : Script → ℕ → Report
  run script n = Runs.run device n (start script)
