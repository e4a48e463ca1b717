-- Frames of methods in int mode in whole runs: what is known before each instruction of such a method, and what is
-- asked
-- of its code so that both machines do the same there.
use Rattle.std.specs.Prelude.{◌≡◌, ℕ, ◌+◌, ◌<◌, ◌≤◌, List, [], ◌∷◌, ◌++◌, length}
use Rattle.std.specs.Prelude.{Option, Some, None, option_map, Bool, true}
use Rattle.std.specs.Prelude.{slice_get}
use Rattle.std.specs.List.{Contains}
use Rattle.cjc_script.specs.Bytes.declared.fault.MemberId.{MemberId}
use Rattle.cjc_range.specs.Span.{Span}
use Rattle.cjc_range.specs.Span as spans
use Rattle.cjc_int_proof.specs.Bytecode.declared.insn.JInsn.{JInsn}
use Rattle.cjc_int_proof.specs.Bytecode.declared.insn.JOp.TheVariants as jop
use Rattle.cjc_script.specs.declared.value.Value.{Value}
use Rattle.cjc_script.specs.Sorts.{Shape, Sort, Reference, Signature, signature_of}
use Rattle.cjc_card_semantics.specs.Bytecode.Machine.{Start}
use Rattle.cjc_ncode.specs.declared.narrow.NInsn.{NInsn}
use Rattle.cjc_ncode.specs.declared.narrow.NMethod.{NMethod}
use Rattle.cjc_ncode.specs.ByLabel.{Callee, Named, by_label}
use Rattle.cjc_ncode.specs.ByLabel as labels
use Rattle.cjc_ncode.specs.Written.{Resolution}
use Rattle.cjc_ncode.specs.IntCode.IntCode.{Before, is_short, written}
use Rattle.cjc_ncode.specs.IntCode.IntCode as written
use Rattle.cjc_jvm_semantics.specs.Linked.{Method, Linked}
use Rattle.cjc_jvm_semantics.specs.Effects.{Store, place}
use Rattle.cjc_jvm_semantics.specs.Effects as by_name
use Rattle.cjc_jvm_semantics.specs.Machine.{Frame}
use Rattle.cjc_int_proof.specs.Walks.{Within, walk}
use Rattle.cjc_narrow_proof.specs.Selection.Calls.{NFrame}
use Rattle.cjc_narrow_proof.specs.Selection.Relation.{Kind, Range, Refers, NMemory, AllWider, Stores}
use Rattle.cjc_narrow_proof.specs.Selection.Tables.{Table, Stands, offset_at, handler_at}
use Rattle.cjc_narrow_proof.specs.Selection.Objects.{class_of}
use Rattle.cjc_narrow_proof.specs.Selection.Replies.{result_kinds}
use Rattle.cjc_int_runs.specs.Calls.{CallInStep}
use Rattle.cjc_int_runs.specs.Modes.{CallReaches, below_params}
use Rattle.cjc_int_runs.specs.Relation.{IntStacks, IntLocals}
use Rattle.cjc_int_runs.specs.Steps.{behind, spot, HasIntRoom, InStep, JumpInStep, LeavesInStep}
use Rattle.cjc_int_runs.specs.Throws.{ThrowsInStep}

-- ---- what is known of a method in int mode

-- what is known before an instruction: of the cells of the stack with the top first, of the locals, and what is written
-- by
pub record IntPoint : Type 0 where
  pub stack : List Kind
  pub locals : List Kind
  pub before : Before

-- What is written for the method, with how many scratch pairs; how names are resolved there; where what is written for
-- an offset stands; and what is known before the instruction at a place of the method's list, where that is reached.
pub record IntBody : Type 0 where
  pub frame : written.Frame
  pub pairs : ℕ
  pub resolution : Resolution
  pub code : NMethod
  pub place_of : (offset : ℕ) → ℕ
  pub point : (at : ℕ) → Option IntPoint

-- the place of what is written for the instruction at a place of the method's list
abbrev pub int_spot : IntBody → Method → (at : ℕ) → ℕ
int_spot b m at = b.place_of (offset_at m at)

-- Less is known of each cell of a stack: a number in a wider interval, a reference of more types.
pub data StackWider : List Kind → List Kind → Type 0 where
  no_wider : StackWider [] []
  wider_number : {s t : Span} {ks js : List Kind} → spans.Within s t → StackWider ks js
      → StackWider (Range s ∷ ks) (Range t ∷ js)
  wider_reference : {within wider : Shape (List ℕ) → Bool} {ks js : List Kind} → ((kind : Shape (List ℕ))
      → within kind ≡ true → wider kind ≡ true) → StackWider ks js → StackWider (Refers within ∷ ks) (Refers wider ∷ js)

-- Both machines go on at a place of the method with cells and locals of these kinds, of which no more is known there.
pub record IntArrives (b : IntBody) (m : Method) (at next : ℕ) (ks ls : List Kind) : Type 0 where
  pub point : IntPoint
  pub is_reached : b.point at ≡ Some point
  pub place : next ≡ int_spot b m at
  pub stack : StackWider ks point.stack
  pub locals : AllWider ls point.locals

-- Both frames are before the same instruction of a method in int mode. By label the prologue, or what is written behind
-- a call, may still be ahead: it leads, without another heap, to what is written for the instruction.
pub record IntStands (l : Named) (b : IntBody) (memory : NMemory) (f : Frame) (g : NFrame) : Type 0 where
  pub point : IntPoint
  pub is_reached : b.point f.at ≡ Some point
  pub code : g.code ≡ b.code
  pub ahead : ℕ
  pub few : ahead ≤ 765
  pub stack : List Value
  pub locals : List (Option Value)
  pub leads : walk (by_label l) b.code ahead (spot g.at g.stack g.locals memory)
      ≡ Within (spot (int_spot b f.method f.at) stack locals memory)
  pub stacks_agree : IntStacks memory.heap point.stack f.stack stack
  pub locals_agree : IntLocals memory.heap b.frame b.pairs point.locals f.locals locals

-- ---- handlers

-- At a handler's target no more is known than that an exception of a type is alone on the stack, which has room for it.
pub record IntHandles (b : IntBody) (m : Method) (target : ℕ) (ls : List Kind) (kind : Shape (List ℕ)) : Type 0 where
  pub within : Shape (List ℕ) → Bool
  pub passes : within kind ≡ true
  pub arrives : IntArrives b m (place m.insns target) (b.place_of target) (Refers within ∷ []) ls
  pub has_room : 0 < m.max_stack
  pub narrow_has_room : 0 < (let code = b.code in code.max_stack)

-- An exception of each type that may be thrown is handled alike wherever it is raised among what is written from one
-- place up to another: both searches find the same handler, or none.
pub record IntCatches (by : Linked) (l : Named) (b : IntBody) (m : Method) (at here next : ℕ) (ls : List Kind)
    (may_throw : Shape (List ℕ) → Bool) : Type 0 where
  pub found : (kind : Shape (List ℕ)) → may_throw kind ≡ true → (k : ℕ) → here ≤ k → k < next
      → labels.handler l (let code = b.code in code.catches) k kind ≡ option_map b.place_of (handler_at by m at kind)
  pub handles : (kind : Shape (List ℕ)) → may_throw kind ≡ true → (target : ℕ) → handler_at by m at kind ≡ Some target
      → IntHandles b m target ls kind

-- ---- what an instruction does

-- a result of these cells is of the type of the method's result: a reference is of its class or array
pub data ResultFits (l : Named) : Option Sort → List Kind → Type 0 where
  no_value : ResultFits l None []
  a_number : {sort : Sort} {s : Span} → ResultFits l (Some sort) (Range s ∷ [])
  a_reference : {shape : Shape (List ℕ)} {within : Shape (List ℕ) → Bool} → ((of : Shape (List ℕ)) → within of ≡ true
      → l.is_of of shape ≡ true) → ResultFits l (Some (Reference shape)) (Refers within ∷ [])

module _ (by : Linked) (l : Named) (Here : NMemory → Frame → NFrame → Type 0) (results : Method → Option Sort)
    (narrowed : Method → Start NMethod) (may_throw : Shape (List ℕ) → Bool) (b : IntBody) (m : Method) (at : ℕ)
    (p : IntPoint) (i : JInsn) where
  -- where what is written for the instruction begins
  abbrev pub here : ℕ
  here = int_spot b m at

  -- what is written for it
  abbrev pub list : List NInsn
  list = written b.frame b.resolution b.place_of p.before here i.op

  -- the place behind that
  abbrev pub next : ℕ
  next = behind here list

  -- What both machines do at it.
  pub data IntRule : Type 0 where
    -- both go on behind it, or raise the same exception
    does : (ks js : List Kind) → ((vs ws : List Value) (locals words : List (Option Value)) (store : Store)
        (memory : NMemory) → Stores l store memory → IntLocals memory.heap b.frame b.pairs p.locals locals words
        → IntStacks memory.heap p.stack vs ws → InStep l b.frame b.pairs ks js here next words memory (at + 1)
        (by_name.effect by m at locals store i.op vs) (λ n. walk (by_label l) b.code n (spot here ws words memory))
        (length list)) → 0 < length list → IntArrives b m (at + 1) next ks js
        → IntCatches by l b m at here next p.locals may_throw → IntRule
    -- both jump, or go on behind it where it may
    jumps : (ks : List Kind) (offsets : List ℕ) → ((vs ws : List Value) (locals words : List (Option Value))
        (store : Store) (memory : NMemory) → Stores l store memory → IntLocals memory.heap b.frame b.pairs p.locals
        locals words → IntStacks memory.heap p.stack vs ws → JumpInStep l b.frame b.pairs ks p.locals here next words
        memory offsets (place m.insns) b.place_of (at + 1) (by_name.effect by m at locals store i.op vs)
        (λ n. walk (by_label l) b.code n (spot here ws words memory)) (length list)) → 0 < length list
        → ((offset : ℕ) → Contains offsets offset → IntArrives b m (place m.insns offset) (b.place_of offset) ks
        p.locals)
        → ((locals after : List (Option Value)) (store new : Store) (vs stack : List Value)
        → by_name.effect by m at locals store i.op vs ≡ by_name.Go (at + 1) stack after new
        → IntArrives b m (at + 1) next ks p.locals) → IntRule
    -- nothing is written
    nothing : i.op ≡ jop.Nop → at < 65534 → IntArrives b m (at + 1) here p.stack p.locals → IntRule
    -- both throw what is on top
    throws : (within : Shape (List ℕ) → Bool) → i.op ≡ jop.Throw → ((vs ws : List Value) (locals words :
        List (Option Value)) (store : Store) (memory : NMemory) → IntStacks memory.heap p.stack vs ws
        → ThrowsInStep within here words memory (by_name.effect by m at locals store i.op vs)
        (λ n. walk (by_label l) b.code n (spot here ws words memory))) → 0 < length list
        → ((kind : Shape (List ℕ)) → within kind ≡ true → may_throw kind ≡ true)
        → IntCatches by l b m at here next p.locals may_throw → IntRule
    -- both return
    returns : (kinds : List Kind) → ((vs ws : List Value) (locals words : List (Option Value)) (store : Store)
        (memory : NMemory) → IntStacks memory.heap p.stack vs ws
        → LeavesInStep memory.heap (results m) kinds words memory (by_name.effect by m at locals store i.op vs)
        (λ n. walk (by_label l) b.code n (spot here ws words memory)) (length list))
        → ResultFits l (results m) kinds → IntRule
    -- both call, and go on behind the call with a result
    calls : (op : ℕ) (id : MemberId) (callee : Callee) (types : Signature) (params ks : List Kind)
        (receiver : Option (Shape (List ℕ) → Bool)) → signature_of id.desc ≡ Some types
        → ((vs ws : List Value) (locals words : List (Option Value)) (store : Store) (memory : NMemory)
        → IntLocals memory.heap b.frame b.pairs p.locals locals words → IntStacks memory.heap p.stack vs ws
        → CallInStep l b.frame b.pairs p.locals b.code here next op id callee types.params params
        (below_params receiver ks) vs ws locals words memory types.result (by_name.effect by m at locals store i.op vs)
        (length list))
        → IntArrives b m (at + 1) next (result_kinds l types.result ++ ks) p.locals
        → HasIntRoom (length (result_kinds l types.result ++ ks)) m.max_stack (let code = b.code in code.max_stack)
        → IntCatches by l b m at here next p.locals may_throw
        → CallReaches by l Here results narrowed may_throw (class_of m) op id callee types params receiver
        → IntRule

-- What is written for each instruction of a method in int mode is at most so much; each that is reached is there, keeps
-- its rule, and leads on where more is known of nothing.
pub record IntMethodIsFine (by : Linked) (l : Named) (Here : NMemory → Frame → NFrame → Type 0)
    (results : Method → Option Sort) (narrowed : Method → Start NMethod) (may_throw : Shape (List ℕ) → Bool)
    (b : IntBody) (m : Method) : Type 0 where
  pub rules : (at : ℕ) (p : IntPoint) → b.point at ≡ Some p → (i : JInsn) × ((slice_get m.insns at ≡ Some i)
      × ((length (written b.frame b.resolution b.place_of p.before (int_spot b m at) i.op) ≤ 767)
      × IntRule by l Here results narrowed may_throw b m at p i))

-- ---- frames by modes

-- Both frames are before the same instruction of a method, which is in int mode where there is a body for it.
pub data StandsByMode (l : Named) (tb : Table) (bodies : Method → Option IntBody) (memory : NMemory) (f : Frame)
    (g : NFrame) : Type 0 where
  in_int_mode : (b : IntBody) → bodies f.method ≡ Some b → IntStands l b memory f g
      → StandsByMode l tb bodies memory f g
  in_short_mode : bodies f.method ≡ None → Stands tb memory.heap f g → StandsByMode l tb bodies memory f g
