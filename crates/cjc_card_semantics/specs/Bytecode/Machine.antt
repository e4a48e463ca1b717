-- The machine on words of 16 bits, over any way to name classes, members and code: frames, exceptions, calls, scripts
-- and runs. The machine by token and the machine of narrow code are two ways.
use Rattle.std.specs.Prelude.{ℕ, zero, suc, ◌+◌, List, [], ◌∷◌, ◌++◌, length, take, drop, map, reverse, replicate}
use Rattle.std.specs.Prelude.{Option, Some, None, option_and_then, option_map, Bool, true, false, nat_le, nat_lt, ◌&&◌}
use Rattle.std.specs.Prelude.{if◌then◌else◌, slice_get, slice_set, ℤ, pos, negsuc, codes}
use Rattle.std.specs.Str.{bytes_eq}
use Rattle.cjc_export.specs.Bytes.declared.fault.MemberId.{MemberId}
use Rattle.cjc_script.specs.declared.value.Value.{Value}
use Rattle.cjc_script.specs.declared.value.Value.TheVariants.{Num, Null, Obj}
use Rattle.cjc_script.specs.declared.script.Act.{Act}
use Rattle.cjc_script.specs.declared.script.Act.TheVariants as acts
use Rattle.cjc_script.specs.declared.script.Entry.{Entry}
use Rattle.cjc_script.specs.declared.script.Reply.{Reply}
use Rattle.cjc_script.specs.declared.script.Reply.TheVariants.{Give, Throw}
use Rattle.cjc_script.specs.declared.script.Answer.{Answer}
use Rattle.cjc_script.specs.declared.script.Script.{Script}
use Rattle.cjc_script.specs.declared.report.FieldValue.{FieldValue}
use Rattle.cjc_script.specs.declared.report.Thing.{Thing}
use Rattle.cjc_script.specs.declared.report.Thing.TheVariants as things
use Rattle.cjc_script.specs.declared.report.Note.{Note}
use Rattle.cjc_script.specs.declared.report.Note.TheVariants.{Event, Result, Thrown}
use Rattle.cjc_script.specs.declared.report.Outcome.{Outcome}
use Rattle.cjc_script.specs.declared.report.Outcome.TheVariants.{Done, Running, Waiting, Unfit, Stuck}
use Rattle.cjc_script.specs.declared.report.Report.{Report}
use Rattle.cjc_script.specs.Sorts.{Shape, OfClass, OfNumbers, OfReferences, Sort, Signature, shape_named, shape_name}
use Rattle.cjc_script.specs.Sorts.{array_name, signature_of, element_sort, fits, all_fit, result_fits}
use Rattle.cjc_card_semantics.specs.Bytecode.Calculations.{Fault, NullPointer}
use Rattle.cjc_card_semantics.specs.Bytecode.Effects.{Slot, HeapObject, Numbers, References, Object, shape, Memory}
use Rattle.cjc_card_semantics.specs.Bytecode.Effects.{Classes, Operation, Effect, Go, Raise, Toss, Invoke, Leave, Stick}
use Rattle.cjc_card_semantics.specs.Bytecode.Effects.{effect}
use Rattle.cjc_card_semantics.specs.Bytecode.Arguments.{words_of, first_and, event_values, result_words, result_of}

-- ---- what a machine is given

-- a method that begins: its code, its first place, its words of arguments and its further locals
pub record Start (P : Type 0) : Type 0 where
  pub code : P
  pub at : ℕ
  pub nargs : ℕ
  pub max_locals : ℕ
  pub is_abstract : Bool

-- what a call reaches: a method with its code, an imported one, or none
pub data Reached (P : Type 0) : Type 0 where
  Nowhere : Reached P
  Within : (start : Start P) → Reached P
  Abroad : (method : MemberId) → Reached P

-- the instruction at a place, and the place behind it
pub record Fetched (C F S M : Type 0) : Type 0 where
  pub operation : Operation C F S M
  pub next : ℕ

-- all that the machine asks of names, code and places
pub record Setting (P C F S M X : Type 0) : Type 0 where
  pub classes : Classes C F S X
  -- the greatest height of the stack
  pub room : P → ℕ
  pub fetch : P → ℕ → Option (Fetched C F S M)
  -- the handler that takes an exception of a type at a place
  pub handler : P → ℕ → Shape C → Option ℕ
  -- whether a call has a receiver, how many words it takes, and what it reaches on a receiver of a type
  pub on_object : M → Bool
  pub words : M → Option ℕ
  pub reached : M → Option (Shape C) → Reached P
  -- the class of an exception of the machine's own
  pub fault : Fault → Option C
  -- what the names of a script stand for: classes, imported classes that are no interfaces, imported subclasses of
  -- Throwable, static methods, methods that are sent to an object of a type
  pub class_named : List ℕ → Option C
  pub imported : List ℕ → Option C
  pub throwable : List ℕ → Option C
  pub called : MemberId → Option (Start P)
  pub sent : Shape C → MemberId → Option (Start P)
  -- and what a report calls classes, fields and static cells
  pub name : C → List ℕ
  pub fields : C → List (Slot F) → List FieldValue
  pub cells : X → List FieldValue

-- ---- states

-- a method under way: the place of the instruction that is next or under way, the place behind its call, its operands
-- with the top first, its locals
pub record Frame (P : Type 0) : Type 0 where
  pub code : P
  pub at : ℕ
  pub next : ℕ
  pub stack : List Value
  pub locals : List (Option Value)

-- the frames with the innermost first, the entries and answers that are left, what was noted, and how many instructions
-- were run
pub record State (P C F X : Type 0) : Type 0 where
  pub frames : List (Frame P)
  pub memory : Memory C F X
  pub entries : List Entry
  pub answers : List Answer
  pub notes : List Note
  pub spent : ℕ

-- to go on, or the end; a state that is stuck apart, since it takes back the instruction
pub data Turn (P C F X : Type 0) : Type 0 where
  Next : (state : State P C F X) → Turn P C F X
  Ended : (outcome : Outcome) (state : State P C F X) → Turn P C F X
  StuckAt : (at : ℕ) (state : State P C F X) → Turn P C F X

-- the locals: as many cells as arguments and locals, the arguments first
abbrev pub locals_of : (nargs max_locals : ℕ) → List Value → List (Option Value)
locals_of nargs max_locals args = take (nargs + max_locals) (map (λ v. Some v) args
    ++ replicate (nargs + max_locals) None)

-- a method that begins with these arguments
abbrev pub frame_for_call : {P : Type 0} → Start P → List Value → Frame P
frame_for_call m args = record {
  code = m.code;
  at = m.at;
  next = m.at;
  stack = [];
  locals = locals_of m.nargs m.max_locals args;
}

-- java/lang/Object.<init>()V is no event and returns at once
abbrev pub is_at_once : MemberId → Bool
is_at_once id = bytes_eq id.class (codes "java/lang/Object") && (bytes_eq id.name (codes "<init>")
    && bytes_eq id.desc (codes "()V"))

module _ {P C F S M X : Type 0} (set : Setting P C F S M X) where
  -- ---- types by name

  -- the type that a script or descriptor names
  abbrev pub shape_of : Shape (List ℕ) → Option (Shape C)
  shape_of (OfClass name) = option_map OfClass (set.class_named name)
  shape_of (OfNumbers element) = Some (OfNumbers element)
  shape_of (OfReferences name) = option_map OfReferences (set.class_named name)

  -- an array or object that is there is of a type that is there
  abbrev pub thing_fits : Option (HeapObject C F) → Option (Shape C) → Bool
  thing_fits (Some thing) (Some kind) = set.classes.is_of (shape thing) kind
  thing_fits thing kind = false

  -- whether the object of this number is of a type
  abbrev pub object_fits : List (HeapObject C F) → ℕ → Shape (List ℕ) → Bool
  object_fits heap k kind = thing_fits (slice_get heap k) (shape_of kind)

  -- ---- what a report shows

  -- a type by the names of its classes
  abbrev pub named_shape : Shape C → Shape (List ℕ)
  named_shape (OfClass c) = OfClass (set.name c)
  named_shape (OfNumbers element) = OfNumbers element
  named_shape (OfReferences c) = OfReferences (set.name c)

  -- the name of a class, the descriptor of an array
  abbrev pub type_name : Shape C → List ℕ
  type_name kind = shape_name (named_shape kind)

  -- an array or object as a report shows it
  abbrev pub shown : HeapObject C F → Thing
  shown (Numbers element items) = things.Array (array_name element) (map Num items)
  shown (References c items) = things.Array (type_name (OfReferences c)) items
  shown (Object c slots) = things.Object (set.name c) (set.fields c slots)

  -- ---- exceptions

  -- An exception goes outwards to the first frame that handles it, which has room for a word, and ends the entry where
  -- none does. `from` is where the state is stuck.
  abbrev pub caught_at : Option ℕ → (from : ℕ) → Frame P → List (Frame P) → (object : ℕ) → State P C F X → Turn P C F X
      → Turn P C F X
  caught_at (Some target) from f outer object s past =
      if nat_lt 0 (set.room f.code) then Next (record s {
        frames = record f { at = target; stack = Obj object ∷ [] }
            ∷ outer;
      }) else StuckAt from s
  caught_at None from f outer object s past = past

  -- from the innermost frame outwards
  abbrev pub caught : (from : ℕ) → List (Frame P) → (object : ℕ) → Shape C → State P C F X → Turn P C F X
  caught from [] object kind s = Next (record s { frames = []; notes = s.notes ++ Thrown (type_name kind) object ∷ [] })
  caught from (f ∷ outer) object kind s =
      caught_at (set.handler f.code f.at kind) from f outer object s (caught from outer object kind s)

  -- one more array or object
  abbrev pub with_last : HeapObject C F → State P C F X → State P C F X
  with_last thing s = record s { memory = record s.memory { heap = s.memory.heap ++ thing ∷ [] } }

  -- an object of the class is made and thrown
  abbrev pub turn_after_raise : Option C → Frame P → List (Frame P) → State P C F X → (otherwise : Turn P C F X)
      → Turn P C F X
  turn_after_raise None f outer s otherwise = otherwise
  turn_after_raise (Some c) f outer s otherwise = caught f.at (f ∷ outer) (length s.memory.heap) (OfClass c)
      (with_last (Object c []) s)

  -- an exception of the machine's own
  abbrev pub turn_after_fault : Fault → Frame P → List (Frame P) → State P C F X → Turn P C F X
  turn_after_fault fault f outer s = turn_after_raise (set.fault fault) f outer s (StuckAt f.at s)

  -- the array or object of this number is thrown
  abbrev pub turn_after_toss : Option (HeapObject C F) → Frame P → List (Frame P) → (object : ℕ) → State P C F X
      → Turn P C F X
  turn_after_toss None f outer object s = StuckAt f.at s
  turn_after_toss (Some thing) f outer object s = caught f.at (f ∷ outer) object (shape thing) s

  -- words go to the frame that called, where its stack has room
  abbrev pub returned : (from : ℕ) → List Value → Frame P → List (Frame P) → State P C F X → Turn P C F X
  returned from words f outer s =
      if nat_le (length (reverse words ++ f.stack)) (set.room f.code)
      then Next (record s { frames = record f { at = f.next; stack = reverse words ++ f.stack } ∷ outer })
      else StuckAt from s

  -- ---- acts of the script

  -- an array of zeros or nulls
  abbrev pub sized_array : Option (Shape C) → ℕ → Option (HeapObject C F)
  sized_array (Some (OfNumbers element)) n = Some (Numbers element (replicate n (pos 0)))
  sized_array (Some (OfReferences c)) n = Some (References c (replicate n Null))
  sized_array kind n = None

  -- at most 32,767 elements
  abbrev pub array_of : Option (Shape C) → ℤ → Option (HeapObject C F)
  array_of kind (pos n) = if nat_le n 32767 then sized_array kind n else None
  array_of kind (negsuc n) = None

  -- an object of a class without fields
  abbrev pub object_of : Option C → Option (HeapObject C F)
  object_of None = None
  object_of (Some c) = Some (Object c [])

  -- null, or an object of a class
  abbrev pub item_fits : List (HeapObject C F) → C → Value → Bool
  item_fits heap c (Num z) = false
  item_fits heap c Null = true
  item_fits heap c (Obj k) = thing_fits (slice_get heap k) (Some (OfClass c))

  -- an array with another element, where that fits
  abbrev pub with_item : List (HeapObject C F) → HeapObject C F → ℕ → Value → Option (HeapObject C F)
  with_item heap (Numbers element items) i (Num z) =
      if nat_lt i (length items) && fits (object_fits heap) (element_sort element) (Num z)
      then Some (Numbers element (slice_set items i z)) else None
  with_item heap (References c items) i v =
      if nat_lt i (length items) && item_fits heap c v then Some (References c (slice_set items i v)) else None
  with_item heap thing i v = None

  -- the heap with another array in its place
  abbrev pub with_array : List (HeapObject C F) → (array : ℕ) → Option (HeapObject C F) → Option (List (HeapObject C F))
  with_array heap array None = None
  with_array heap array (Some thing) = Some (slice_set heap array thing)

  -- an element that is replaced, where it is there
  abbrev pub put_item : List (HeapObject C F) → (array : ℕ) → Option (HeapObject C F) → ℤ → Value
      → Option (List (HeapObject C F))
  put_item heap array (Some thing) (pos i) v = with_array heap array (with_item heap thing i v)
  put_item heap array thing i v = None

  -- the heap with one more
  abbrev pub heap_with : List (HeapObject C F) → Option (HeapObject C F) → Option (List (HeapObject C F))
  heap_with heap None = None
  heap_with heap (Some thing) = Some (heap ++ thing ∷ [])

  -- the heap after an act, where it fits
  abbrev pub heap_after : Act → List (HeapObject C F) → Option (List (HeapObject C F))
  heap_after (acts.Array desc size) heap = heap_with heap (array_of (option_and_then shape_of (shape_named desc)) size)
  heap_after (acts.Object class) heap = heap_with heap (object_of (set.imported class))
  heap_after (acts.Put array i v) heap = put_item heap array (slice_get heap array) i v

  -- the state with another heap
  abbrev pub with_heap : List (HeapObject C F) → State P C F X → State P C F X
  with_heap heap s = record s { memory = record s.memory { heap = heap } }

  -- acts in order, up to the first that does not fit, and then what follows
  abbrev pub prepared_by : Option (List (HeapObject C F)) → (number : ℕ) → State P C F X
      → (State P C F X → Turn P C F X) → Turn P C F X
  prepared_by None number s go = Ended (Unfit number) s
  prepared_by (Some heap) number s go = go (with_heap heap s)

  -- acts, and what follows them
  abbrev pub turn_after_acts : List Act → (number : ℕ) → State P C F X → (State P C F X → Turn P C F X) → Turn P C F X
  turn_after_acts [] number s go = go s
  turn_after_acts (a ∷ acts) number s go = prepared_by (heap_after a s.memory.heap) number s (λ t. turn_after_acts acts
      number t go)

  -- ---- imported calls

  -- a value that fits the result, or an exception of a class that fits
  abbrev pub turn_after_reply : Reply → (number : ℕ) (result : Option Sort) → Frame P → List (Frame P) → State P C F X
      → Turn P C F X
  turn_after_reply (Give v) number result f outer s =
      if result_fits (object_fits s.memory.heap) result v then returned f.at (result_words result v) f outer s
      else Ended (Unfit number) s
  turn_after_reply (Throw class) number result f outer s = turn_after_raise (set.throwable class) f outer s
      (Ended (Unfit number) s)

  -- the next answer, after its acts
  abbrev pub turn_after_answer : List Answer → (result : Option Sort) → Frame P → List (Frame P) → State P C F X
      → Turn P C F X
  turn_after_answer [] result f outer s = Ended Waiting s
  turn_after_answer (a ∷ answers) result f outer s =
      turn_after_acts a.acts a.number (record s { answers = answers }) (λ t. turn_after_reply a.reply a.number result f
      outer t)

  -- an imported method: its event, and then the next answer
  abbrev pub turn_after_event : MemberId → (result : Option Sort) → Option (List Value) → Frame P → List (Frame P)
      → State P C F X → Turn P C F X
  turn_after_event id result None f outer s = StuckAt f.at s
  turn_after_event id result (Some values) f outer s = turn_after_answer s.answers result f outer
      (record s { notes = s.notes ++ Event id values ∷ [] })

  -- its words are of the kinds that its descriptor says
  abbrev pub typed : (on_object : Bool) → MemberId → Option Signature → List Value → Frame P → List (Frame P)
      → State P C F X → Turn P C F X
  typed on_object id None args f outer s = StuckAt f.at s
  typed on_object id (Some types) args f outer s = turn_after_event id types.result (event_values on_object types.params
      args) f outer s

  -- an imported call, with its receiver
  abbrev pub outside : (on_object : Bool) → MemberId → List Value → Frame P → List (Frame P) → State P C F X
      → Turn P C F X
  outside on_object id args f outer s =
      if is_at_once id then returned f.at [] f outer s else typed on_object id (signature_of id.desc) args f outer s

  -- ---- calls

  -- a method with code begins
  abbrev pub inside : Start P → List Value → Frame P → List (Frame P) → State P C F X → Turn P C F X
  inside m args f outer s = if m.is_abstract then StuckAt f.at s
      else Next (record s { frames = frame_for_call m args ∷ f ∷ outer })

  -- what a call does with what it reaches
  abbrev pub reaches : Reached P → (on_object : Bool) → List Value → Frame P → List (Frame P) → State P C F X
      → Turn P C F X
  reaches Nowhere on_object args f outer s = StuckAt f.at s
  reaches (Within m) on_object args f outer s = inside m args f outer s
  reaches (Abroad id) on_object args f outer s = outside on_object id args f outer s

  -- a call on the array or object of its receiver
  abbrev pub reaches_on : M → Option (HeapObject C F) → List Value → Frame P → List (Frame P) → State P C F X
      → Turn P C F X
  reaches_on m None args f outer s = StuckAt f.at s
  reaches_on m (Some thing) args f outer s = reaches (set.reached m (Some (shape thing))) true args f outer s

  -- the deepest argument is the receiver; null raises at the call
  abbrev pub on_receiver : M → List Value → Frame P → List (Frame P) → State P C F X → Turn P C F X
  on_receiver m [] f outer s = StuckAt f.at s
  on_receiver m (Num x ∷ args) f outer s = StuckAt f.at s
  on_receiver m (Null ∷ args) f outer s = turn_after_fault NullPointer f outer s
  on_receiver m (Obj k ∷ args) f outer s = reaches_on m (slice_get s.memory.heap k) (Obj k ∷ args) f outer s

  -- a call with its words, the deepest first
  abbrev pub with_args : (on_object : Bool) → M → List Value → Frame P → List (Frame P) → State P C F X → Turn P C F X
  with_args false m args f outer s = reaches (set.reached m None) false args f outer s
  with_args true m args f outer s = on_receiver m args f outer s

  -- a call takes its words off the stack
  abbrev pub counted : Option ℕ → M → Frame P → List (Frame P) → State P C F X → Turn P C F X
  counted None m f outer s = StuckAt f.at s
  counted (Some n) m f outer s =
      if nat_le n (length f.stack)
      then with_args (set.on_object m) m (reverse (take n f.stack)) (record f { stack = drop n f.stack }) outer s
      else StuckAt f.at s

  -- a method returns words to the frame that called, or ends its entry
  abbrev pub left : List Value → Frame P → List (Frame P) → State P C F X → Turn P C F X
  left words f [] s = Next (record s { frames = []; notes = s.notes ++ Result (result_of words) ∷ [] })
  left words f (g ∷ outer) s = returned f.at words g outer s

  -- what follows from an effect
  abbrev pub made : Effect C F M X → (next : ℕ) → Frame P → List (Frame P) → State P C F X → Turn P C F X
  made (Go at stack locals m) next f outer s = Next (record s {
    frames = record f {
      at = at;
      stack = stack;
      locals = locals;
    } ∷ outer;
    memory = m;
  })
  made (Raise fault) next f outer s = turn_after_fault fault f outer s
  made (Toss object) next f outer s = turn_after_toss (slice_get s.memory.heap object) f outer object s
  made (Invoke m) next f outer s = counted (set.words m) m (record f { next = next }) outer s
  made (Leave words) next f outer s = left words f outer s
  made Stick next f outer s = StuckAt f.at s

  -- ---- a turn

  -- the instruction at a frame's place
  abbrev pub turn_after_fetch : Option (Fetched C F S M) → Frame P → List (Frame P) → State P C F X → Turn P C F X
  turn_after_fetch None f outer s = StuckAt f.at s
  turn_after_fetch (Some i) f outer s = made (effect set.classes i.operation (set.room f.code) i.next f.locals s.memory
      f.stack) i.next f outer s

  -- an instruction that is stuck is not spent
  abbrev pub spent_by : (before : ℕ) → Turn P C F X → Turn P C F X
  spent_by n (Next s) = Next s
  spent_by n (Ended o s) = Ended o s
  spent_by n (StuckAt at s) = StuckAt at (record s { spent = n })

  -- one instruction of the innermost frame
  abbrev pub step : List (Frame P) → State P C F X → Turn P C F X
  step [] s = Ended Done s
  step (f ∷ outer) s = spent_by s.spent (turn_after_fetch (set.fetch f.code f.at) f outer
      (record s { spent = s.spent + 1 }))

  -- ---- entries

  -- the method that is sent to an array or object
  abbrev pub sent_to : Option (HeapObject C F) → MemberId → Option (Start P)
  sent_to None id = None
  sent_to (Some thing) id = set.sent (shape thing) id

  -- the method that is sent to the first of these values
  abbrev pub sent_on : List (HeapObject C F) → MemberId → List Value → Option (Start P)
  sent_on heap id (Obj k ∷ args) = sent_to (slice_get heap k) id
  sent_on heap id args = None

  -- the method that an entry names
  abbrev pub entry_start : List (HeapObject C F) → Entry → Option (Start P)
  entry_start heap e = if e.virtual_call then sent_on heap e.method e.args else set.called e.method

  -- the words of values that fit
  abbrev pub words_if : Bool → List Sort → List Value → Option (List Value)
  words_if true sorts args = words_of sorts args
  words_if false sorts args = None

  -- the words of values, where each fits its type
  abbrev pub fitting_words : List (HeapObject C F) → List Sort → List Value → Option (List Value)
  fitting_words heap sorts args = words_if (all_fit (object_fits heap) sorts args) sorts args

  -- the same with a receiver in front
  abbrev pub words_behind : List (HeapObject C F) → List Sort → List Value → Option (List Value)
  words_behind heap sorts [] = None
  words_behind heap sorts (v ∷ args) = first_and v (fitting_words heap sorts args)

  -- the words of an entry's arguments by its types
  abbrev pub words_for : List (HeapObject C F) → Entry → Option Signature → Option (List Value)
  words_for heap e None = None
  words_for heap e (Some types) =
      if e.virtual_call then words_behind heap types.params e.args else fitting_words heap types.params e.args

  -- the words of an entry's arguments, where they fit
  abbrev pub entry_words : List (HeapObject C F) → Entry → Option (List Value)
  entry_words heap e = words_for heap e (signature_of (let m = e.method in m.desc))

  -- an entry begins where its method and its arguments fit
  abbrev pub entered_by : Option (Start P) → Option (List Value) → Entry → List Entry → State P C F X → Turn P C F X
  entered_by (Some m) (Some words) e entries s = Next (record s {
    frames = frame_for_call m words ∷ [];
    entries = entries;
  })
  entered_by (Some m) None e entries s = Ended (Unfit e.number) s
  entered_by None words e entries s = Ended (Unfit e.number) s

  -- where no frame is, the next entry begins, after its acts
  abbrev pub begins : List (Frame P) → List Entry → State P C F X → Turn P C F X
  begins [] [] s = Ended Done s
  begins [] (e ∷ entries) s =
      turn_after_acts e.acts e.number s (λ t. entered_by (entry_start t.memory.heap e) (entry_words t.memory.heap e) e
      entries t)
  begins (f ∷ outer) entries s = Next s

  -- ---- a run

  -- what a state makes known
  abbrev pub report : Outcome → State P C F X → Report
  report o s = record {
    notes = s.notes;
    statics = set.cells s.memory.statics;
    heap = map shown s.memory.heap;
    outcome = o;
    spent = s.spent;
  }

  -- the outcome where no instruction is left to spend
  abbrev pub idle : List (Frame P) → List Entry → Outcome
  idle [] [] = Done
  idle [] (e ∷ entries) = Running
  idle (f ∷ outer) entries = Running

  -- what follows where a turn goes on
  abbrev pub and_then : Turn P C F X → (State P C F X → Turn P C F X) → Turn P C F X
  and_then (Next s) go = go s
  and_then (Ended o s) go = Ended o s
  and_then (StuckAt at s) go = StuckAt at s

  -- an entry begins where none is active, and then one instruction is made
  abbrev pub turn : State P C F X → Turn P C F X
  turn s = and_then (begins s.frames s.entries s) (λ t. step t.frames t)

  -- the report of a turn, or of what follows it
  abbrev pub report_after_turn : Turn P C F X → (State P C F X → Report) → Report
  report_after_turn (Next s) go = go s
  report_after_turn (Ended o s) go = report o s
  report_after_turn (StuckAt at s) go = report (Stuck at) s

  -- the run of n instructions
  abbrev pub run : ℕ → State P C F X → Report
  run zero s = report (idle s.frames s.entries) s
  run (suc n) s = report_after_turn (turn s) (run n)

-- the first state
abbrev pub start : {P C F X : Type 0} → Memory C F X → Script → State P C F X
start m script = record {
  frames = [];
  memory = m;
  entries = script.entries;
  answers = script.answers;
  notes = [];
  spent = 0;
}
