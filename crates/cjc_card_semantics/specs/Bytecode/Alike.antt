-- Two machines whose look-ups are the same under other names and places.
use Rattle.std.specs.Prelude.{◌≡◌, ◌≢◌, ℕ, List, [], ◌∷◌, map, Option, Some, None}
use Rattle.cjc_export.specs.Bytes.declared.fault.MemberId.{MemberId}
use Rattle.cjc_script.specs.declared.report.Outcome.TheVariants.{Stuck}
use Rattle.cjc_script.specs.declared.report.Report.{Report}
use Rattle.cjc_script.specs.Sorts.{Shape}
use Rattle.cjc_card_semantics.specs.Bytecode.Calculations.{Fault}
use Rattle.cjc_card_semantics.specs.Bytecode.Effects.{Slot, HeapObject, Object, shape}
use Rattle.cjc_card_semantics.specs.Bytecode.Renaming.{option_as, shape_as, memory_as, operation_as, Knows}
use Rattle.cjc_card_semantics.specs.Bytecode.Renaming.{KnownHeapObject, KnownMemory, KnownOperation, UnmadeAlike}
use Rattle.cjc_card_semantics.specs.Bytecode.Renaming.{AreAlike}
use Rattle.cjc_card_semantics.specs.Bytecode.Machine.{Start, Reached, Nowhere, Within, Abroad, Fetched, Setting, Frame}
use Rattle.cjc_card_semantics.specs.Bytecode.Machine.{State, run}

-- a call that reaches something
abbrev pub IsFound : {P : Type 0} → Reached P → Type 0
IsFound Nowhere = ⊥
IsFound (Within m) = Unit {0}
IsFound (Abroad id) = Unit {0}

module _ {P Q : Type 0} (code : P → Q) (to : P → ℕ → ℕ) where
  -- a method that begins, on the other side
  abbrev pub start_as : Start P → Start Q
  start_as m = record {
    code = code m.code;
    at = to m.code m.at;
    nargs = m.nargs;
    max_locals = m.max_locals;
    is_abstract = m.is_abstract;
  }

  -- what a call reaches, on the other side
  abbrev pub reached_as : Reached P → Reached Q
  reached_as Nowhere = Nowhere
  reached_as (Within m) = Within (start_as m)
  reached_as (Abroad id) = Abroad id

  -- a frame on the other side
  abbrev pub frame_as : Frame P → Frame Q
  frame_as f = record {
    code = code f.code;
    at = to f.code f.at;
    next = to f.code f.next;
    stack = f.stack;
    locals = f.locals;
  }

-- how classes, fields, static cells, methods, code and places are named on the other side
pub record Names (P C F S M X Q D G T N Y : Type 0) : Type 0 where
  pub class : C → D
  pub field : F → G
  -- what an object of a class holds
  pub slots : C → List (Slot F) → List (Slot G)
  pub cell : S → T
  pub method : M → N
  pub statics : X → Y
  pub code : P → Q
  pub to : P → ℕ → ℕ

module _ {P C F S M X Q D G T N Y : Type 0} (n : Names P C F S M X Q D G T N Y) where
  -- a state on the other side: all but names and places is the same
  abbrev pub state_as : State P C F X → State Q D G Y
  state_as s = record {
    frames = map (frame_as n.code n.to) s.frames;
    memory = memory_as n.class n.slots n.statics s.memory;
    entries = s.entries;
    answers = s.answers;
    notes = s.notes;
    spent = s.spent;
  }

  -- an instruction of a method on the other side
  abbrev pub fetched_as : P → Fetched C F S M → Fetched D G T N
  fetched_as p i = record {
    operation = operation_as n.class n.field n.cell n.method (n.to p) i.operation;
    next = n.to p i.next;
  }

  module _ (known : Knows C F S X) (KnownCode : P → Type 0) (KnownMethod : M → Type 0) where
    -- a type of which there is a known array or object
    pub record KnownThing (kind : Shape C) : Type 0 where
      pub thing : HeapObject C F
      pub is_known : KnownHeapObject known thing
      pub is_of : shape thing ≡ kind

    -- a receiver that is there is known
    abbrev pub KnownKind : Option (Shape C) → Type 0
    KnownKind None = Unit {0}
    KnownKind (Some kind) = KnownThing kind

    -- the code of each frame is known
    pub data KnownFrames : List (Frame P) → Type 0 where
      no_frames : KnownFrames []
      one_frame : {f : Frame P} {fs : List (Frame P)} → KnownCode f.code → KnownFrames fs → KnownFrames (f ∷ fs)

    -- the code of each frame, and all that the heap and the static cells name, is known
    pub record KnownState (s : State P C F X) : Type 0 where
      pub frames : KnownFrames s.frames
      pub memory : KnownMemory known s.memory

    -- The look-ups of the second machine are those of the first, for what is known; and what they give is known.
    pub record SettingsAlike (set : Setting P C F S M X) (set' : Setting Q D G T N Y) : Type 0 where
      pub classes : AreAlike known n.class n.field n.slots n.cell n.statics set.classes set'.classes
      pub room : (p : P) → KnownCode p → set'.room (n.code p) ≡ set.room p
      pub fetch : (p : P) (at : ℕ) (i : Fetched C F S M) → KnownCode p → set.fetch p at ≡ Some i
          → set'.fetch (n.code p) (n.to p at) ≡ Some (fetched_as p i)
      pub fetch_known : (p : P) (at : ℕ) (i : Fetched C F S M) → KnownCode p → set.fetch p at ≡ Some i
          → KnownOperation known KnownMethod i.operation
      pub handler : (p : P) (at : ℕ) (kind : Shape C) → KnownCode p → KnownThing kind
          → set'.handler (n.code p) (n.to p at) (shape_as n.class kind) ≡ option_as (n.to p) (set.handler p at kind)
      pub on_object : (m : M) → KnownMethod m → set'.on_object (n.method m) ≡ set.on_object m
      pub words : (m : M) (w : ℕ) → KnownMethod m → set.words m ≡ Some w → set'.words (n.method m) ≡ Some w
      -- where the first reaches something
      pub reached : (m : M) (o : Option (Shape C)) (r : Reached P) → KnownMethod m → KnownKind o → set.reached m o ≡ r
          → IsFound r → set'.reached (n.method m) (option_as (shape_as n.class) o) ≡ reached_as n.code n.to r
      pub reached_known : (m : M) (o : Option (Shape C)) (start : Start P) → KnownMethod m → KnownKind o
          → set.reached m o ≡ Within start → KnownCode start.code
      pub fault : (f : Fault) → set'.fault f ≡ option_as n.class (set.fault f)
      pub fault_known : (f : Fault) (c : C) → set.fault f ≡ Some c → KnownHeapObject known (Object c [])
      pub class_named : (name : List ℕ) → set'.class_named name ≡ option_as n.class (set.class_named name)
      pub class_named_known : (name : List ℕ) (c : C) → set.class_named name ≡ Some c → known.class c
      pub imported : (name : List ℕ) → set'.imported name ≡ option_as n.class (set.imported name)
      pub imported_known : (name : List ℕ) (c : C) → set.imported name ≡ Some c → KnownHeapObject known (Object c [])
      pub throwable : (name : List ℕ) → set'.throwable name ≡ option_as n.class (set.throwable name)
      pub throwable_known : (name : List ℕ) (c : C) → set.throwable name ≡ Some c → KnownHeapObject known (Object c [])
      pub called : (id : MemberId) → set'.called id ≡ option_as (start_as n.code n.to) (set.called id)
      pub called_known : (id : MemberId) (start : Start P) → set.called id ≡ Some start → KnownCode start.code
      pub sent : (kind : Shape C) (id : MemberId) → KnownThing kind → set'.sent (shape_as n.class kind) id
          ≡ option_as (start_as n.code n.to) (set.sent kind id)
      pub sent_known : (kind : Shape C) (id : MemberId) (start : Start P) → KnownThing kind
          → set.sent kind id ≡ Some start → KnownCode start.code
      pub name : (c : C) → known.class c → set'.name (n.class c) ≡ set.name c
      pub fields : (c : C) (slots : List (Slot F)) → KnownHeapObject known (Object c slots)
          → set'.fields (n.class c) (n.slots c slots) ≡ set.fields c slots
      pub cells : (x : X) → known.statics x → set'.cells (n.statics x) ≡ set.cells x

    -- Where the first finds nothing, the second finds nothing.
    pub record MissesAlike (set : Setting P C F S M X) (set' : Setting Q D G T N Y) : Type 0 where
      pub unmade : UnmadeAlike known n.class n.field n.slots n.cell n.statics set.classes set'.classes
      pub fetch : (p : P) (at : ℕ) → KnownCode p → set.fetch p at ≡ None → set'.fetch (n.code p) (n.to p at) ≡ None
      pub words : (m : M) → KnownMethod m → set.words m ≡ None → set'.words (n.method m) ≡ None
      pub reached : (m : M) (o : Option (Shape C)) → KnownMethod m → KnownKind o → set.reached m o ≡ Nowhere
          → set'.reached (n.method m) (option_as (shape_as n.class) o) ≡ Nowhere

    -- the run is not stuck
    abbrev pub IsFree : Report → Type 0
    IsFree r = (at : ℕ) → r.outcome ≢ Stuck at

    -- From a known state the two machines give equal reports, for every number of instructions, where the first is not
    -- stuck.
    abbrev pub RunsAgree : Setting P C F S M X → Setting Q D G T N Y → Type 0
    RunsAgree set set' = (k : ℕ) (s : State P C F X) → KnownState s → IsFree (run set k s) → run set' k (state_as s)
        ≡ run set k s

    -- From a known state the first machine is not stuck where the second is not.
    abbrev pub RunsStickAlike : Setting P C F S M X → Setting Q D G T N Y → Type 0
    RunsStickAlike set set' = (k : ℕ) (s : State P C F X) → KnownState s → IsFree (run set' k (state_as s))
        → IsFree (run set k s)
