-- What is asked of a method in int mode so that both machines do the same in it: its code stands as it is written, and
-- each instruction that is reached has a row for what is known before it.
use Rattle.std.specs.Prelude.{◌≡◌, ℕ, ◌+◌, ◌<◌, ◌≤◌, List, ◌∷◌, ◌++◌, length, Option, Some, Bool, true, slice_get}
use Rattle.std.specs.List.{Contains}
use Rattle.cjc_script.specs.Bytes.declared.fault.MemberId.{MemberId}
use Rattle.cjc_int_proof.specs.Bytecode.declared.insn.JInsn.{JInsn}
use Rattle.cjc_int_proof.specs.Bytecode.declared.insn.JOp.TheVariants as jop
use Rattle.cjc_script.specs.declared.value.Value.{Value}
use Rattle.cjc_script.specs.Sorts.{Shape, Sort, Signature, signature_of}
use Rattle.cjc_card_semantics.specs.Bytecode.Machine.{Start}
use Rattle.cjc_ncode.specs.declared.narrow.NInsn.{NInsn}
use Rattle.cjc_ncode.specs.declared.narrow.NMethod.{NMethod}
use Rattle.cjc_ncode.specs.ByLabel.{Callee, Named}
use Rattle.cjc_ncode.specs.IntCode.IntCode.{is_by_scratch, written}
use Rattle.cjc_jvm_semantics.specs.Linked.{Method, Linked}
use Rattle.cjc_jvm_semantics.specs.Effects.{Store, place}
use Rattle.cjc_jvm_semantics.specs.Effects as by_name
use Rattle.cjc_jvm_semantics.specs.Machine.{Frame}
use Rattle.cjc_narrow_proof.specs.Selection.Callees.{Names}
use Rattle.cjc_narrow_proof.specs.Selection.Calls.{NFrame}
use Rattle.cjc_narrow_proof.specs.Selection.Objects.{class_of}
use Rattle.cjc_narrow_proof.specs.Selection.Relation.{Kind, Refers, NMemory}
use Rattle.cjc_narrow_proof.specs.Selection.Replies.{result_kinds}
use Rattle.cjc_int_runs.specs.Calls.{onto, PassesInt}
use Rattle.cjc_int_runs.specs.IntFrames.{IntPoint, IntBody, int_spot, IntArrives, IntCatches, ResultFits}
use Rattle.cjc_int_runs.specs.Modes.{CallReaches, below_params}
use Rattle.cjc_int_runs.specs.Rows.{IsIntRow, IsIntJump, IsIntReturn}
use Rattle.cjc_int_runs.specs.Steps.{StandAt, behind, HasIntRoom}

module _ (by : Linked) (l : Named) (Here : NMemory → Frame → NFrame → Type 0) (results : Method → Option Sort)
    (narrowed : Method → Start NMethod) (may_throw : Shape (List ℕ) → Bool) (b : IntBody) (m : Method) where
  -- there is room for so many cells, by name and by label
  abbrev pub RoomFor : List Kind → Type 0
  RoomFor kinds = HasIntRoom (length kinds) m.max_stack (let code = b.code in code.max_stack)

  module _ (at : ℕ) (p : IntPoint) (i : JInsn) where
    -- what is written for it
    abbrev pub insns : List NInsn
    insns = written b.frame b.resolution b.place_of p.before (int_spot b m at) i.op

    -- the place behind that
    abbrev pub then_at : ℕ
    then_at = behind (int_spot b m at) insns

    -- exceptions among what is written for it are handled alike
    abbrev pub IsHandled : Type 0
    IsHandled = IntCatches by l b m at (int_spot b m at) then_at p.locals may_throw

    -- An instruction of the method, by what is known before it.
    pub data IntInsn : Type 0 where
      has_row : (before ks after js : List Kind) → p.stack ≡ before ++ ks
          → IsIntRow by l b.frame b.resolution m p.before i.op before after p.locals js → 0 < length insns
          → RoomFor (before ++ ks) → RoomFor (after ++ ks) → IntArrives b m (at + 1) then_at (after ++ ks) js
          → IsHandled → IntInsn
      has_jump : (before ks : List Kind) (offsets : List ℕ) → p.stack ≡ before ++ ks
          → IsIntJump by l b.frame b.resolution m p.before i.op before offsets → 0 < length insns
          → RoomFor (before ++ ks)
          → ((offset : ℕ) → Contains offsets offset → IntArrives b m (place m.insns offset) (b.place_of offset) ks
          p.locals)
          → ((locals after : List (Option Value)) (store new : Store) (vs stack : List Value)
          → by_name.effect by m at locals store i.op vs ≡ by_name.Go (at + 1) stack after new
          → IntArrives b m (at + 1) then_at ks p.locals) → IntInsn
      is_nop : i.op ≡ jop.Nop → at < 65534 → IntArrives b m (at + 1) (int_spot b m at) p.stack p.locals → IntInsn
      is_throw : (within : Shape (List ℕ) → Bool) (ks : List Kind) → i.op ≡ jop.Throw → p.stack ≡ Refers within ∷ ks
          → ((kind : Shape (List ℕ)) → within kind ≡ true → may_throw kind ≡ true) → IsHandled → IntInsn
      has_return : (kinds ks : List Kind) → p.stack ≡ kinds ++ ks
          → IsIntReturn by l b.frame b.resolution m p.before i.op kinds → (let f = b.frame in f.result) ≡ results m
          → ResultFits l (results m) kinds → IntInsn
      is_call : (op : ℕ) (id : MemberId) (callee : Callee) (types : Signature) (params ks : List Kind)
          (receiver : Option (Shape (List ℕ) → Bool)) → i.op ≡ jop.Call op id
          → p.stack ≡ onto params (below_params receiver ks) → signature_of id.desc ≡ Some types
          → Names b.resolution op id callee → PassesInt types.params params
          → (is_by_scratch types.params ≡ true → length types.params ≤ b.pairs)
          → HasIntRoom (length params + length (below_params receiver ks)) m.max_stack
          (let code = b.code in code.max_stack)
          → IntArrives b m (at + 1) then_at (result_kinds l types.result ++ ks) p.locals
          → RoomFor (result_kinds l types.result ++ ks) → IsHandled
          → CallReaches by l Here results narrowed may_throw (class_of m) op id callee types params receiver → IntInsn

  -- Each instruction that is reached is there, is written where it is to stand, and has a row; a call has at most 255
  -- parameters.
  pub record IntMethodStands : Type 0 where
    pub stands : (at : ℕ) (p : IntPoint) → b.point at ≡ Some p → (i : JInsn) × ((slice_get m.insns at ≡ Some i)
        × (StandAt b.code (int_spot b m at) (insns at p i) × IntInsn at p i))
    pub few_params : (opcode : ℕ) (id : MemberId) (types : Signature) (at : ℕ) (p : IntPoint) (i : JInsn)
        → b.point at ≡ Some p → slice_get m.insns at ≡ Some i → i.op ≡ jop.Call opcode id → signature_of id.desc
        ≡ Some types → length types.params ≤ 255
