-- Methods in int mode whose code is what is written for their reached instructions, and what has to be known before
-- each
-- of these: of cells and locals alone, without places in the code.
use Rattle.std.specs.Prelude.{◌≡◌, ℕ, ◌+◌, ◌*◌, ◌<◌, ◌≤◌, List, [], ◌∷◌, ◌++◌}
use Rattle.std.specs.Prelude.{length, Option, Some, Bool, true, slice_get}
use Rattle.std.specs.List.{Contains}
use Rattle.cjc_script.specs.Bytes.declared.fault.MemberId.{MemberId}
use Rattle.cjc_int_proof.specs.Bytecode.declared.insn.JInsn.{JInsn}
use Rattle.cjc_int_proof.specs.Bytecode.declared.insn.JOp.TheVariants as jop
use Rattle.cjc_script.specs.declared.value.Value.{Value}
use Rattle.cjc_script.specs.Sorts.{Shape, Sort, OfClass, Signature, shape_name, signature_of}
use Rattle.cjc_card_semantics.specs.Bytecode.Machine.{Start}
use Rattle.cjc_ncode.specs.declared.narrow.NMethod.{NMethod}
use Rattle.cjc_ncode.specs.ByLabel.{Callee, Named}
use Rattle.cjc_ncode.specs.Written.{catches_at}
use Rattle.cjc_ncode.specs.IntCode.IntCode.{Reached, is_by_scratch, place_in, prologue, written_from}
use Rattle.cjc_jvm_semantics.specs.Linked.{Method, Linked}
use Rattle.cjc_jvm_semantics.specs.Effects.{Store, place}
use Rattle.cjc_jvm_semantics.specs.Effects as by_name
use Rattle.cjc_jvm_semantics.specs.Machine.{Frame}
use Rattle.cjc_narrow_proof.specs.Selection.Callees.{Names}
use Rattle.cjc_narrow_proof.specs.Selection.Calls.{NFrame}
use Rattle.cjc_narrow_proof.specs.Selection.Objects.{class_of}
use Rattle.cjc_narrow_proof.specs.Selection.Relation.{Kind, Refers, NMemory, AllWider}
use Rattle.cjc_narrow_proof.specs.Selection.Replies.{result_kinds}
use Rattle.cjc_narrow_proof.specs.Selection.Tables.{class_of_code, handler_at}
use Rattle.cjc_int_runs.specs.Calls.{onto, PassesInt}
use Rattle.cjc_int_runs.specs.IntFrames.{IntPoint, IntBody, StackWider, ResultFits}
use Rattle.cjc_int_runs.specs.Modes.{CallReaches, below_params}
use Rattle.cjc_int_runs.specs.Placed.{Ascends}
use Rattle.cjc_int_runs.specs.Rows.{IsIntRow, IsIntJump, IsIntReturn}

-- ---- code

-- The code of a method is the prologue and what is written for its reached instructions, and so are its handlers; it
-- has
-- room for two words for each cell of the method, and four more. The method's offsets ascend; what is known is known
-- of reached instructions, which are those of the method.
pub record IsWritten (b : IntBody) (m : Method) (reached : List Reached) : Type 0 where
  pub place_of : b.place_of ≡ place_in b.frame b.resolution reached
  pub insns : (let code = b.code in code.insns) ≡ prologue b.frame ++ written_from b.frame b.resolution
      (place_in b.frame b.resolution reached) (length (prologue b.frame)) reached
  pub catches : (let code = b.code in code.catches) ≡ catches_at (place_in b.frame b.resolution reached) m.catches
  pub has_room : 2 * m.max_stack + 4 ≤ (let code = b.code in code.max_stack)
  pub ascends : Ascends reached
  pub in_order : (j k : ℕ) (x y : JInsn) → slice_get m.insns j ≡ Some x → slice_get m.insns k ≡ Some y → j < k
      → x.at < y.at
  pub is_reached : (at : ℕ) (p : IntPoint) → b.point at ≡ Some p → (k : ℕ) × (i : Reached)
      × (slice_get reached k ≡ Some i) × (slice_get m.insns at ≡ Some i.insn) × (i.before ≡ p.before)
  pub is_there : (k : ℕ) (i : Reached) → slice_get reached k ≡ Some i → (at : ℕ) × (slice_get m.insns at
      ≡ Some i.insn)

-- ---- what is known

-- A place of the method is reached, and there no more is known of cells and locals of these kinds.
pub record Knows (b : IntBody) (at : ℕ) (ks ls : List Kind) : Type 0 where
  pub point : IntPoint
  pub is_reached : b.point at ≡ Some point
  pub stack : StackWider ks point.stack
  pub locals : AllWider ls point.locals

-- At a handler's target no more is known than that an exception of a type is alone on the stack, which has room for it.
pub record Takes (b : IntBody) (m : Method) (target : ℕ) (ls : List Kind) (kind : Shape (List ℕ)) : Type 0 where
  pub within : Shape (List ℕ) → Bool
  pub passes : within kind ≡ true
  pub knows : Knows b (place m.insns target) (Refers within ∷ []) ls
  pub has_room : 0 < m.max_stack

module _ (by : Linked) (l : Named) (Here : NMemory → Frame → NFrame → Type 0) (results : Method → Option Sort)
    (narrowed : Method → Start NMethod) (may_throw : Shape (List ℕ) → Bool) (b : IntBody) (m : Method) where
  -- whether a type that may be thrown is of a class is told alike
  abbrev pub TellsClasses : Type 0
  TellsClasses = (kind : Shape (List ℕ)) → may_throw kind ≡ true → (class : List ℕ)
      → by.subtype (Some (class_of_code m)) (shape_name kind) class ≡ l.is_of kind (OfClass class)

  -- there is room for so many cells
  abbrev pub Room : List Kind → Type 0
  Room kinds = length kinds ≤ m.max_stack

  module _ (at : ℕ) (p : IntPoint) (i : JInsn) where
    -- each handler that takes an exception there takes it on both sides
    abbrev pub IsTaken : Type 0
    IsTaken = (kind : Shape (List ℕ)) → may_throw kind ≡ true → (target : ℕ) → handler_at by m at kind ≡ Some target
        → Takes b m target p.locals kind

    -- An instruction of the method, by what is known before it and where it leads.
    pub data IntTyped : Type 0 where
      row_typed : (before ks after js : List Kind) → p.stack ≡ before ++ ks
          → IsIntRow by l b.frame b.resolution m p.before i.op before after p.locals js → (i.op ≡ jop.Nop → ⊥) → Room
          (before ++ ks)
          → Room (after ++ ks) → Knows b (at + 1) (after ++ ks) js → IsTaken → IntTyped
      jump_typed : (before ks : List Kind) (offsets : List ℕ) → p.stack ≡ before ++ ks
          → IsIntJump by l b.frame b.resolution m p.before i.op before offsets → Room (before ++ ks)
          → ((offset : ℕ) → Contains offsets offset → Knows b (place m.insns offset) ks p.locals)
          → ((locals after : List (Option Value)) (store new : Store) (vs stack : List Value)
          → by_name.effect by m at locals store i.op vs ≡ by_name.Go (at + 1) stack after new
          → Knows b (at + 1) ks p.locals) → IntTyped
      nop_typed : i.op ≡ jop.Nop → at < 65534 → Knows b (at + 1) p.stack p.locals → IntTyped
      throw_typed : (within : Shape (List ℕ) → Bool) (ks : List Kind) → i.op ≡ jop.Throw → p.stack
          ≡ Refers within ∷ ks → ((kind : Shape (List ℕ)) → within kind ≡ true → may_throw kind ≡ true) → IsTaken
          → IntTyped
      return_typed : (kinds ks : List Kind) → p.stack ≡ kinds ++ ks
          → IsIntReturn by l b.frame b.resolution m p.before i.op kinds → (let f = b.frame in f.result) ≡ results m
          → ResultFits l (results m) kinds → IntTyped
      call_typed : (op : ℕ) (id : MemberId) (callee : Callee) (types : Signature) (params ks : List Kind)
          (receiver : Option (Shape (List ℕ) → Bool)) → i.op ≡ jop.Call op id
          → p.stack ≡ onto params (below_params receiver ks) → signature_of id.desc ≡ Some types
          → Names b.resolution op id callee → PassesInt types.params params
          → (is_by_scratch types.params ≡ true → length types.params ≤ b.pairs)
          → length params + length (below_params receiver ks) ≤ m.max_stack
          → Knows b (at + 1) (result_kinds l types.result ++ ks) p.locals
          → Room (result_kinds l types.result ++ ks) → IsTaken
          → CallReaches by l Here results narrowed may_throw (class_of m) op id callee types params receiver → IntTyped

  -- Each instruction that is reached is so; a call has at most 255 parameters.
  pub record IntMethodIsTyped : Type 0 where
    pub typed : (at : ℕ) (p : IntPoint) (i : JInsn) → b.point at ≡ Some p → slice_get m.insns at ≡ Some i
        → IntTyped at p i
    pub few_params : (opcode : ℕ) (id : MemberId) (types : Signature) (at : ℕ) (p : IntPoint) (i : JInsn)
        → b.point at ≡ Some p → slice_get m.insns at ≡ Some i → i.op ≡ jop.Call opcode id → signature_of id.desc
        ≡ Some types → length types.params ≤ 255

  -- Its code is written for some reached instructions, before each of which enough is known.
  pub record IntMethodIsWritten : Type 0 where
    pub reached : List Reached
    pub is_written : IsWritten b m reached
    pub tells : TellsClasses
    pub is_typed : IntMethodIsTyped
