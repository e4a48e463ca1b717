-- What the look-ups of both sides say of a call in code in int mode, and which instructions of such code are supported.
use Rattle.std.specs.Prelude.{◌≡◌, ℕ, Bool, true, List, slice_get, Option, Some, None, codes}
use Rattle.std.specs.List.{AllZip, AllByRecursion}
use Rattle.cjc_bytes.specs.Descriptor.{Part}
use Rattle.cjc_bytes.specs.declared.fault.MemberId.{MemberId}
use Rattle.cjc_bytes.specs.declared.descriptor.Kind.{Kind as PartKind}
use Rattle.cjc_bytes.specs.declared.descriptor.Kind.TheVariants as part_kinds
use Rattle.cjc_range.specs.Span.{Span, Within, full}
use Rattle.cjc_code.specs.Jvm as jvm
use Rattle.cjc_code.specs.declared.insn.JInsn.{JInsn}
use Rattle.cjc_code.specs.declared.insn.JOp.{JOp}
use Rattle.cjc_code.specs.declared.insn.JOp.TheVariants as jop
use Rattle.cjc_script.specs.Sorts.{Shape, Sort, Int, OfClass, Reference, sort_of, result_by}
use Rattle.cjc_types.specs.Fixpoint.Tables.{HasRow}
use Rattle.cjc_types.specs.declared.cell.Cell.{Cell}
use Rattle.cjc_types.specs.declared.cell.Cell.TheVariants.{Refs}
use Rattle.cjc_types.specs.declared.state.State.{State}
use Rattle.cjc_types.specs.Search.{cells_of}
use Rattle.cjc_types.specs.Steps.{operand, receivers}
use Rattle.cjc_types.specs.Types.{parts}
use Rattle.cjc_card_semantics.specs.Bytecode.Machine.{Start}
use Rattle.cjc_ncode.specs.declared.narrow.NMethod.{NMethod}
use Rattle.cjc_ncode.specs.ByLabel.{Callee, Named}
use Rattle.cjc_ncode.specs.Written.{Resolution}
use Rattle.cjc_ncode.specs.IntCode.IntCode.{is_short}
use Rattle.cjc_jvm_semantics.specs.Linked.{Method, Linked}
use Rattle.cjc_jvm_semantics.specs.Machine.{Frame}
use Rattle.cjc_narrow_proof.specs.Selection.Callees.{Names}
use Rattle.cjc_narrow_proof.specs.Selection.Calls.{NFrame}
use Rattle.cjc_narrow_proof.specs.Selection.Objects.{class_of}
use Rattle.cjc_narrow_proof.specs.Selection.Relation.{Kind, Range, Refers, NMemory}
use Rattle.cjc_narrow_proof.specs.Tables.Analysis.{Found}
use Rattle.cjc_narrow_proof.specs.Tables.Calls.{types_of, count_of}
use Rattle.cjc_narrow_proof.specs.Tables.Kinds.{is_one_of}
use Rattle.cjc_narrow_proof.specs.Tables.Names.{IsDesc}
use Rattle.cjc_narrow_proof.specs.Tables.Supported.{IsPlain, IsReturn}
use Rattle.cjc_int_runs.specs.Fields.{has_values}
use Rattle.cjc_int_runs.specs.Modes.{CallReaches}
use Rattle.cjc_int_runs.specs.Relation.{type_range}
use Rattle.cjc_int_alike.specs.Names.{IsIntResolved, IsOnIntArray}

-- ---- descriptors

-- a result of a type of some values, or none
abbrev pub is_some_result : PartKind → Sort → Bool
is_some_result part_kinds.Void type = true
is_some_result kind type = has_values type

-- The descriptor of a method whose parameters, and its result where it has one, are of types of some values.
pub record IsIntDesc (desc : List ℕ) : Type 0 where
  pub is_desc : IsDesc desc
  pub is_method : (let d = parts desc in d.is_method) ≡ true
  pub params : AllByRecursion (λ p. has_values (sort_of p) ≡ true) (let d = parts desc in d.params)
  pub result : (let d = parts desc in let p = d.result in is_some_result p.kind (sort_of p)) ≡ true

-- The callers of a method are given what its descriptor says.
pub record GivesResult (results : Method → Option Sort) (f : Found) (m : Method) : Type 0 where
  pub desc : IsIntDesc (let b = f.body in b.desc)
  pub given : results m ≡ (let b = f.body in let d = parts b.desc in let p = d.result in result_by p.kind p)

-- ---- arguments

-- A cell that may be given for a parameter: a number of its type, any number for int, or a reference of its class or
-- array.
pub data IsPassedInt (l : Named) : Part → Kind → Type 0 where
  a_word : {p : Part} {s : Span} → is_short (sort_of p) ≡ true → Within s (type_range (sort_of p))
      → IsPassedInt l p (Range s)
  an_int : {p : Part} {s : Span} → sort_of p ≡ Int → Within s full → IsPassedInt l p (Range s)
  a_reference : {p : Part} {within : Shape (List ℕ) → Bool} (shape : Shape (List ℕ)) → sort_of p ≡ Reference shape
      → ((of : Shape (List ℕ)) → within of ≡ true → l.is_of of shape ≡ true) → IsPassedInt l p (Refers within)

-- those of a descriptor, the first first
abbrev pub AreGiven : Named → (desc : List ℕ) → List Kind → Type 0
AreGiven l desc ks = AllZip (IsPassedInt l) (let d = parts desc in d.params) ks

-- ---- instructions

module _ (by : Linked) (l : Named) (Here : NMemory → Frame → NFrame → Type 0) (results : Method → Option Sort)
    (narrowed : Method → Start NMethod) (may_throw : Shape (List ℕ) → Bool) (r : Resolution) (m : Method) where
  -- A call in code of m, on a stack of these types: both sides reach the same, whatever is given for the parameters, by
  -- the class of the member or on each receiver of the types that are there.
  pub data IsIntCalled (cells : List Cell) : JOp → Type 0 where
    on_class : {id : MemberId} (callee : Callee) → IsIntDesc id.desc → Names r jvm.invokestatic id callee
        → ((params : List Kind) → AreGiven l id.desc params → CallReaches by l Here results narrowed may_throw
        (class_of m) jvm.invokestatic id callee (types_of id.desc) params None)
        → IsIntCalled cells (jop.Call jvm.invokestatic id)
    on_receiver : {op : ℕ} {id : MemberId} (callee : Callee) → IsIntDesc id.desc → Names r op id callee
        → receivers op ≡ 1 → ((names : List (List ℕ)) → operand cells (count_of id.desc) ≡ Refs names
        → (params : List Kind) → AreGiven l id.desc params → CallReaches by l Here results narrowed may_throw
        (class_of m) op id callee (types_of id.desc) params (Some (is_one_of l names)))
        → IsIntCalled cells (jop.Call op id)

  -- An instruction in code of m, on a stack of these types, is one that int mode has, and what it names is found alike
  -- on both sides.
  pub data IsIntSupported (cells : List Cell) : JOp → Type 0 where
    names_nothing : {op : JOp} → IsPlain op → IsIntSupported cells op
    is_resolved : {op : JOp} → IsIntResolved by l r m cells op → IsIntSupported cells op
    is_on_array : {op : JOp} → IsOnIntArray op → IsIntSupported cells op
    returns : {opcode : ℕ} → IsReturn opcode → IsIntSupported cells (jop.Return opcode)
    throws : IsIntSupported cells jop.Throw
    calls : {op : JOp} → IsIntCalled cells op → IsIntSupported cells op

  -- each reached instruction of a method
  abbrev pub AreIntSupported : Found → Type 0
  AreIntSupported f = (at : ℕ) (i : JInsn) (t : State) → slice_get (let b = f.body in b.insns) at ≡ Some i
      → HasRow f.types at t → IsIntSupported (cells_of t.stack) i.op

  -- An exception may be thrown where it is a java/lang/Throwable.
  abbrev pub MayThrowThrowables : Type 0
  MayThrowThrowables = (kind : Shape (List ℕ)) → l.is_of kind (OfClass (codes "java/lang/Throwable")) ≡ true
      → may_throw kind ≡ true
