-- Whole runs of a package, each method of which may be in any mode: what both machines do at one instruction of the
-- class file and at what is written for it, in frames of any kind, so that whole runs agree by it.
use Rattle.std.specs.Prelude.{◌≡◌, ◌≢◌, ℕ, suc, ◌+◌, ◌-◌, ◌<◌, ◌≤◌, List, [], ◌∷◌}
use Rattle.std.specs.Prelude.{◌++◌, length, reverse, Option, Some, None}
use Rattle.std.specs.Prelude.{option_map, Bool, true, false, slice_get}
use Rattle.cjc_script.specs.Bytes.declared.fault.MemberId.{MemberId}
use Rattle.cjc_int_proof.specs.Bytecode.declared.insn.JInsn.{JInsn}
use Rattle.cjc_script.specs.declared.value.Value.{Value}
use Rattle.cjc_script.specs.declared.value.Value.TheVariants.{Null, Obj}
use Rattle.cjc_script.specs.declared.script.Entry.{Entry}
use Rattle.cjc_script.specs.declared.report.Note.{Note}
use Rattle.cjc_script.specs.declared.report.Outcome.{Outcome}
use Rattle.cjc_script.specs.declared.report.Outcome.TheVariants.{Running, Stuck}
use Rattle.cjc_script.specs.declared.report.Report.{Report}
use Rattle.cjc_script.specs.Sorts.{Shape, OfClass, Sort, Reference, Signature, shape_name, signature_of}
use Rattle.cjc_card_semantics.specs.Bytecode.Arguments.{widths}
use Rattle.cjc_card_semantics.specs.Bytecode.Runs.{Move, On, Over, Alike}
use Rattle.cjc_card_semantics.specs.Bytecode.Effects.{HeapObject, shape}
use Rattle.cjc_card_semantics.specs.Bytecode.Effects as narrow
use Rattle.cjc_card_semantics.specs.Bytecode.Machine.{Start, Within, Abroad, Next, Ended}
use Rattle.cjc_card_semantics.specs.Bytecode.Machine as machine
use Rattle.cjc_ncode.specs.declared.narrow.NMethod.{NMethod}
use Rattle.cjc_ncode.specs.ByLabel.{Callee, Named, on_object, by_label}
use Rattle.cjc_ncode.specs.ByLabel as labels
use Rattle.cjc_jvm_semantics.specs.Linked.{Method, Inside, OnClass, OnObject, Linked}
use Rattle.cjc_jvm_semantics.specs.Linked
use Rattle.cjc_jvm_semantics.specs.Effects.{Fault, Store, exception_class, place}
use Rattle.cjc_jvm_semantics.specs.Effects as by_name
use Rattle.cjc_jvm_semantics.specs.Machine.{Frame, State, values_of, frame_for_call, handler_in, holder_of, room}
use Rattle.cjc_jvm_semantics.specs.Machine as named
use Rattle.cjc_int_proof.specs.Walks.{Within as Inside_frame, Out, walk}
use Rattle.cjc_narrow_proof.specs.Selection.Acts.{Keeps, ActsAlike}
use Rattle.cjc_narrow_proof.specs.Selection.Calls.{NFrame, NState, NTurn}
use Rattle.cjc_narrow_proof.specs.Selection.Relation.{Kind, Refers, Heap, NMemory, Stores, IsMadeOf}
use Rattle.cjc_narrow_proof.specs.Selection.Replies.{StatesAgree, AsksAlike, ThrowsAlike, may_be_thrown, result_kinds}
use Rattle.cjc_narrow_proof.specs.Selection.Rows.{narrow_fault}
use Rattle.cjc_narrow_proof.specs.Selection.Throws.{nheap, IsRaised}
use Rattle.cjc_int_runs.specs.Relation.{AllHanded}
use Rattle.cjc_int_runs.specs.Steps.{NSpot, IntResults, spot}
use Rattle.cjc_int_runs.specs.Calls.{onto}

-- the cells below the parameters of a call: those of its receiver, where it has one, and others
abbrev pub below_params : Option (Shape (List ℕ) → Bool) → List Kind → List Kind
below_params None ks = ks
below_params (Some within) ks = Refers within ∷ ks

-- a frame of narrow code at a spot
abbrev pub frame_at : NFrame → NSpot → NFrame
frame_at g to = record g { at = to.at; stack = to.stack; locals = to.locals }

-- The machine by name and the look-ups of narrow code; what both frames are to one another where they are before the
-- same instruction of a class file; what a method gives; and which types may be thrown.
module _ (by : Linked) (l : Named) (Here : NMemory → Frame → NFrame → Type 0) (results : Method → Option Sort)
    (narrowed : Method → Start NMethod) (may_throw : Shape (List ℕ) → Bool) where
  -- ---- handlers

  -- Both frames handle an exception of a type alike: both searches find the same handler, or none, and both frames are
  -- before its first instruction then, with the exception alone on the stack.
  pub record Handles (heap : Heap) (f : Frame) (g : NFrame) (kind : Shape (List ℕ)) : Type 0 where
    pub target_of : ℕ → ℕ
    pub found : labels.handler l (let code = g.code in code.catches) g.at kind
        ≡ option_map target_of (handler_in by f (shape_name kind))
    pub has_room : (target : ℕ) → handler_in by f (shape_name kind) ≡ Some target → (0 < room f)
        × (0 < (let code = g.code in code.max_stack))
    pub goes : (target : ℕ) → handler_in by f (shape_name kind) ≡ Some target → (memory : NMemory)
        → Keeps heap memory.heap → (object : ℕ) (thing : HeapObject (List ℕ) MemberId)
        → slice_get memory.heap object ≡ Some thing → shape thing ≡ kind
        → Here memory (record f { at = place (let m = f.method in m.insns) target; stack = Obj object ∷ [] })
        (record g { at = target_of target; stack = Obj object ∷ [] })

  -- each type that may be thrown
  abbrev pub Catches : Heap → Frame → NFrame → Type 0
  Catches heap f g = (kind : Shape (List ℕ)) → may_throw kind ≡ true → Handles heap f g kind

  -- ---- frames that wait

  -- With a result of its type, handed over by words, there is room on both stacks, and both frames are behind the call.
  pub record Returns (memory : NMemory) (f : Frame) (g : NFrame) (value : Option Value) (words : List Value) : Type 0
    where
      pub by_name : length (values_of value ++ f.stack) ≤ room f
      pub narrow : length (reverse words ++ g.stack) ≤ (let code = g.code in code.max_stack)
      pub here : Here memory (record f { at = f.at + 1; stack = values_of value ++ f.stack }) (record g {
        at = g.next;
        stack = reverse words ++ g.stack;
      })

  -- Both frames wait behind the same call, which gives a value of a type or none.
  pub record Waits (heap : Heap) (result : Option Sort) (f : Frame) (g : NFrame) : Type 0 where
    pub returns : (memory : NMemory) → Keeps heap memory.heap → (value : Option Value) (words : List Value)
        → IntResults memory.heap result (result_kinds l result) value words → Returns memory f g value words
    pub catches : Catches heap f g

  -- The frames of both machines that wait for a result of a type, the innermost first.
  pub data Waiting (heap : Heap) : (result : Option Sort) → List Frame → List NFrame → Type 0 where
    none_waits : {result : Option Sort} → Waiting heap result [] []
    one_waits : {result : Option Sort} {f : Frame} {g : NFrame} {outer : List Frame} {others : List NFrame}
        → Waits heap result f g → Waiting heap (results f.method) outer others
        → Waiting heap result (f ∷ outer) (g ∷ others)

  -- ---- states

  -- A state of each machine that agree: no frame is active in either, or both are before the same instruction of the
  -- same method, above frames that wait alike.
  pub data Couple : Type 0 where
    between : (s : State) (t : NState) → StatesAgree l s t → Couple
    inside : (f : Frame) (outer : List Frame) (s : State) (g : NFrame) (others : List NFrame) (t : NState)
        → StatesAgree l s t → Here t.memory f g → Waiting (nheap t) (results f.method) outer others → Couple

  -- the state of the machine by name
  abbrev pub left : Couple → State
  left (between s t same) = record s { frames = [] }
  left (inside f outer s g others t same here waiting) = record s { frames = f ∷ outer }

  -- the state of the narrow machine
  abbrev pub right : Couple → NState
  right (between s t same) = record t { frames = [] }
  right (inside f outer s g others t same here waiting) = record t { frames = g ∷ others }

  -- how many instructions for which nothing is written may follow at most
  abbrev pub measure : Couple → ℕ
  measure (between s t same) = 65534
  measure (inside f outer s g others t same here waiting) = 65534 - f.at

  -- Where a turn of each machine leads: to states that agree, or to the end with reports that are alike.
  pub data Both : Move State → NTurn → Type 0 where
    onward : (v : Couple) → Both (On (left v)) (Next (right v))
    over : (r : Report) (o : Outcome) (t : NState) → Alike (machine.report (by_label l) o t) r
        → r.outcome ≢ Running → ((at : ℕ) → r.outcome ≢ Stuck at) → Both (Over r) (Ended o t)

  -- ---- calls

  -- What is handed over in frames that call: the arguments by name on top of one stack, and their words by types on top
  -- of the other.
  pub record Arguments (heap : Heap) (types : Signature) (f : Frame) (g : NFrame) : Type 0 where
    pub kinds : List Kind
    pub args : List Value
    pub under : List Value
    pub words : List Value
    pub below : List Value
    pub by_name : f.stack ≡ onto args under
    pub narrow : g.stack ≡ onto words below
    pub handed : AllHanded heap types.params kinds args words

  -- A method with code and what is written for it begin, with these arguments and words.
  pub record Enters (memory : NMemory) (m : Method) (args words : List Value) : Type 0 where
    pub has_code : m.is_abstract ≡ false
    pub is_written : (let n = narrowed m in n.is_abstract) ≡ false
    pub here : Here memory (frame_for_call m args) (machine.frame_for_call (narrowed m) words)

  -- The event of an imported method has the member's descriptor, and what is of the type of a result is told alike.
  pub record IsImported (id event : MemberId) (types : Signature) : Type 0 where
    pub desc : event.desc ≡ id.desc
    pub asks : (kind : Shape (List ℕ)) → types.result ≡ Some (Reference kind) → AsksAlike by l kind

  -- What a receiver selects on both sides: a method of the package, which begins, or an imported one. Both frames wait
  -- behind the call.
  pub data SelectedAlike (memory : NMemory) (id : MemberId) (callee : Callee) (types : Signature)
      (selected : List ℕ → Option Linked.Callee) (kind : Shape (List ℕ)) (args words : List Value) (f : Frame)
      (g : NFrame) : Type 0 where
    within_package : (m : Method) → selected (shape_name kind) ≡ Some (Inside m)
        → l.reached callee (Some kind) ≡ Within (narrowed m) → Enters memory m args words
        → Waits memory.heap (results m) f g → SelectedAlike memory id callee types selected kind args words f g
    outside_package : (event : MemberId) → selected (shape_name kind) ≡ Some (Linked.Abroad event)
        → l.reached callee (Some kind) ≡ Abroad event → IsImported id event types
        → Waits memory.heap types.result f g → SelectedAlike memory id callee types selected kind args words f g

  -- What frames that call a member reach on both sides: by its class, or by the receiver below the arguments.
  pub data CallsAlike (memory : NMemory) (op : ℕ) (id : MemberId) (callee : Callee) (f : Frame) (g : NFrame) : Type 0
    where
      on_class : (types : Signature) (a : Arguments memory.heap types f g) (m : Method)
          → by.call (holder_of f) op id ≡ Some (OnClass (Inside m)) → signature_of id.desc ≡ Some types
          → on_object callee ≡ false → l.words callee ≡ Some (length a.words)
          → l.reached callee None ≡ Within (narrowed m) → Enters memory m a.args a.words
          → Waits memory.heap (results m) (record f { stack = a.under }) (record g { stack = a.below })
          → CallsAlike memory op id callee f g
      on_import : (types : Signature) (a : Arguments memory.heap types f g) (event : MemberId)
          → by.call (holder_of f) op id ≡ Some (OnClass (Linked.Abroad event)) → signature_of id.desc ≡ Some types
          → on_object callee ≡ false → l.words callee ≡ Some (length a.words)
          → l.reached callee None ≡ Abroad event → IsImported id event types
          → Waits memory.heap types.result (record f { stack = a.under }) (record g { stack = a.below })
          → CallsAlike memory op id callee f g
      on_null : (types : Signature) (a : Arguments memory.heap types f g) (selected : List ℕ → Option Linked.Callee)
          (under below : List Value)
          → by.call (holder_of f) op id ≡ Some (OnObject selected) → signature_of id.desc ≡ Some types
          → on_object callee ≡ true → l.words callee ≡ Some (length a.words + 1)
          → a.under ≡ Null ∷ under → a.below ≡ Null ∷ below → Catches memory.heap f g
          → CallsAlike memory op id callee f g
      on_receiver : (types : Signature) (a : Arguments memory.heap types f g) (selected : List ℕ → Option Linked.Callee)
          (under below : List Value) (object : ℕ) (thing : HeapObject (List ℕ) MemberId)
          → by.call (holder_of f) op id ≡ Some (OnObject selected) → signature_of id.desc ≡ Some types
          → on_object callee ≡ true → l.words callee ≡ Some (length a.words + 1)
          → a.under ≡ Obj object ∷ under → a.below ≡ Obj object ∷ below → slice_get memory.heap object ≡ Some thing
          → SelectedAlike memory id callee types selected (shape thing) (Obj object ∷ a.args) (Obj object ∷ a.words)
          (record f { stack = under }) (record g { stack = below })
          → CallsAlike memory op id callee f g

  -- ---- what calls reach, whatever frames they stand in

  -- A method begins wherever it is given arguments of these types and kinds.
  abbrev pub MayEnter : Method → List Sort → List Kind → Type 0
  MayEnter m sorts kinds = (memory : NMemory) (args words : List Value) → AllHanded memory.heap sorts kinds args words
      → Enters memory m args words

  -- the same with a receiver of a type in front
  abbrev pub MayEnterOn : Method → Shape (List ℕ) → List Sort → List Kind → Type 0
  MayEnterOn m kind sorts kinds = (memory : NMemory) (object : ℕ) (thing : HeapObject (List ℕ) MemberId)
      (args words : List Value) → slice_get memory.heap object ≡ Some thing → shape thing ≡ kind
      → AllHanded memory.heap sorts kinds args words → Enters memory m (Obj object ∷ args) (Obj object ∷ words)

  -- Both look-ups of a call select the same on a receiver of a type: a method of the package, or an imported one.
  pub data Chooses (id : MemberId) (callee : Callee) (types : Signature) (params : List Kind)
      (selected : List ℕ → Option Linked.Callee) (kind : Shape (List ℕ)) : Type 0 where
    chooses_method : (m : Method) → selected (shape_name kind) ≡ Some (Inside m)
        → l.reached callee (Some kind) ≡ Within (narrowed m) → results m ≡ types.result
        → MayEnterOn m kind types.params params → Chooses id callee types params selected kind
    chooses_import : (event : MemberId) → selected (shape_name kind) ≡ Some (Linked.Abroad event)
        → l.reached callee (Some kind) ≡ Abroad event → IsImported id event types
        → Chooses id callee types params selected kind

  -- Both look-ups of a call find the same: by its class, or on each receiver that passes a test.
  pub data CallReaches (holder : List ℕ) (op : ℕ) (id : MemberId) (callee : Callee) (types : Signature)
      (params : List Kind) : (receiver : Option (Shape (List ℕ) → Bool)) → Type 0 where
    reaches_method : (m : Method) → by.call holder op id ≡ Some (OnClass (Inside m)) → on_object callee ≡ false
        → l.words callee ≡ Some (widths types.params) → l.reached callee None ≡ Within (narrowed m)
        → results m ≡ types.result → MayEnter m types.params params
        → CallReaches holder op id callee types params None
    reaches_import : (event : MemberId) → by.call holder op id ≡ Some (OnClass (Linked.Abroad event))
        → on_object callee ≡ false → l.words callee ≡ Some (widths types.params)
        → l.reached callee None ≡ Abroad event → IsImported id event types
        → CallReaches holder op id callee types params None
    reaches_objects : (selected : List ℕ → Option Linked.Callee) (within : Shape (List ℕ) → Bool)
        → by.call holder op id ≡ Some (OnObject selected) → on_object callee ≡ true
        → l.words callee ≡ Some (widths types.params + 1)
        → ((kind : Shape (List ℕ)) → within kind ≡ true → IsMadeOf l kind → Chooses id callee types params selected
        kind)
        → CallReaches holder op id callee types params (Some within)

  -- ---- one instruction

  module _ (most : ℕ) (memory : NMemory) (store : Store) (f : Frame) (g : NFrame) (i : JInsn) where
    -- what the instruction asks of the machine by name
    abbrev pub asked : by_name.Effect
    asked = by_name.effect by f.method f.at f.locals store i.op f.stack

    -- where the code leads in so many instructions
    abbrev pub Led : (n : ℕ) → NSpot → (next : ℕ) → narrow.Effect (List ℕ) MemberId Callee (List (narrow.Slot MemberId))
        → Type 0
    Led n to next asked = walk (by_label l) g.code n (spot g.at g.stack g.locals memory) ≡ Out to next asked

    -- What one instruction by name is to at most so many by label.
    pub data Does : Type 0 where
      -- both go on in their frames, with one instruction by label at least
      goes_on : (at : ℕ) (vs : List Value) (locals : List (Option Value)) (after : Store) (n : ℕ) (to : NSpot)
          → asked ≡ by_name.Go at vs locals after
          → walk (by_label l) g.code (suc n) (spot g.at g.stack g.locals memory) ≡ Inside_frame to → suc n ≤ most
          → Stores l after to.memory → Keeps memory.heap (let m = to.memory in m.heap)
          → Here to.memory (record f { at = at; stack = vs; locals = locals }) (frame_at g to) → Does
      -- nothing is written for it
      stays : (vs : List Value) (locals : List (Option Value)) → asked ≡ by_name.Go (f.at + 1) vs locals store
          → f.at < 65534 → Here memory (record f { at = f.at + 1; stack = vs; locals = locals }) g → Does
      -- both raise, throw, return or call, in frames with heap and static cells as they were
      raises : (fault : Fault) (n next : ℕ) (to : NSpot) → asked ≡ by_name.Raise fault
          → Led n to next (narrow.Raise (narrow_fault fault)) → n ≤ most → to.memory ≡ memory
          → Catches memory.heap f (frame_at g to) → Does
      throws : (object : ℕ) (thing : HeapObject (List ℕ) MemberId) (n next : ℕ) (to : NSpot)
          → asked ≡ by_name.Toss object → Led n to next (narrow.Toss object) → n ≤ most → to.memory ≡ memory
          → slice_get memory.heap object ≡ Some thing → may_throw (shape thing) ≡ true
          → Catches memory.heap f (frame_at g to) → Does
      returns : (value : Option Value) (words : List Value) (n next : ℕ) (to : NSpot) → asked ≡ by_name.Leave value
          → Led n to next (narrow.Leave words) → n ≤ most → to.memory ≡ memory
          → IntResults memory.heap (results f.method) (result_kinds l (results f.method)) value words → Does
      calls : (op : ℕ) (id : MemberId) (callee : Callee) (n next : ℕ) (to : NSpot) → asked ≡ by_name.Invoke op id
          → Led n to next (narrow.Invoke callee) → n ≤ most → to.memory ≡ memory
          → CallsAlike memory op id callee f (record (frame_at g to) { next = next }) → Does

  -- ---- entries

  -- Both machines begin the entry's method, before anything is noted; or both are over.
  pub data Begins (notes : List Note) : Move State → NTurn → Type 0 where
    enters : (f : Frame) (s : State) (g : NFrame) (t : NState) → StatesAgree l s t → Here t.memory f g
        → t.notes ≡ notes → Begins notes (On (record s { frames = f ∷ [] })) (Next (record t { frames = g ∷ [] }))
    is_over : (r : Report) (o : Outcome) (t : NState) → Alike (machine.report (by_label l) o t) r
        → r.outcome ≢ Running → ((at : ℕ) → r.outcome ≢ Stuck at) → Begins notes (Over r) (Ended o t)

  -- ---- a package

  -- Where both frames are before an instruction it is there, and one by name is at most so many by label; entries begin
  -- alike, exceptions and acts of a script are alike, and so is the first state.
  pub record IsFine (most : ℕ) : Type 0 where
    pub does : (memory : NMemory) (store : Store) (f : Frame) (g : NFrame) → Here memory f g → Stores l store memory
        → (i : JInsn) × ((slice_get (let m = f.method in m.insns) f.at ≡ Some i) × Does most memory store f g i)
    pub entries : (e : Entry) (entries : List Entry) (s : State) (t : NState) → StatesAgree l s t
        → Begins t.notes (named.begins by [] (e ∷ entries) s) (machine.begins (by_label l) [] (e ∷ entries) t)
    pub raised : (fault : Fault) → IsRaised l fault
    pub may_raise : (fault : Fault) → may_throw (OfClass (exception_class fault)) ≡ true
    pub acts : ActsAlike by l
    pub throws : (class : List ℕ) → ThrowsAlike by l class
    pub may_answer : (class : List ℕ) → may_be_thrown by class ≡ true → may_throw (OfClass class) ≡ true
    pub starts : Stores l (record { heap = by.heap; statics = by.statics }) l.memory
