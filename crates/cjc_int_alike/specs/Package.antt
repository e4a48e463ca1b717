-- A package each method of which is in int mode or not, as whole runs by modes ask it.
use Rattle.std.specs.Prelude.{◌≡◌, ℕ, List, slice_get, Option, Some, None}
use Rattle.cjc_bytes.specs.declared.fault.MemberId.{MemberId}
use Rattle.cjc_code.specs.declared.insn.JInsn.{JInsn}
use Rattle.cjc_code.specs.declared.insn.JOp.{JOp}
use Rattle.cjc_code.specs.declared.insn.JOp.TheVariants as jop
use Rattle.cjc_script.specs.Sorts.{Sort}
use Rattle.cjc_world.specs.Classes.{Class}
use Rattle.cjc_types.specs.Fixpoint.Tables.{HasRow}
use Rattle.cjc_types.specs.declared.cell.Cell.{Cell}
use Rattle.cjc_types.specs.declared.state.State.{State}
use Rattle.cjc_types.specs.Search.{cells_of}
use Rattle.cjc_ncode.specs.ByLabel.{Named}
use Rattle.cjc_jvm_semantics.specs.Linked.{Method, Linked}
use Rattle.cjc_narrow_proof.specs.Selection.Reached.{IsAnswered}
use Rattle.cjc_narrow_proof.specs.Selection.Relation.{Stores}
use Rattle.cjc_narrow_proof.specs.Selection.Tables.{Point, MayRaise}
use Rattle.cjc_narrow_proof.specs.Tables.Analysis.{Analysis, TypesAreTold, ThrowablesMay, table_of}
use Rattle.cjc_narrow_proof.specs.Tables.Arrays.{ClassesAreNamed}
use Rattle.cjc_narrow_proof.specs.Tables.Supported.{IsPlain, IsReturn}
use Rattle.cjc_int_runs.specs.ByModes.{ShortRule}
use Rattle.cjc_int_runs.specs.IntFrames.{IntBody}
use Rattle.cjc_int_alike.specs.Callees.{IsCalledByMode, IsIntBegun, IsScriptedByMode}
use Rattle.cjc_int_alike.specs.Names.{IsIntResolved, IsOnIntArray}

module _ (by : Linked) (l : Named) (w : List Class) (a : Analysis) (bodies : Method → Option IntBody)
    (results : Method → Option Sort) where
  -- An instruction in code of a method in int mode, on a stack of these types, is one that int mode has, and what it
  -- names is found alike on both sides.
  pub data IsSupportedByMode (m : Method) (cells : List Cell) : JOp → Type 0 where
    plainly : {op : JOp} → IsPlain op → IsSupportedByMode m cells op
    by_name : {op : JOp} → IsIntResolved by l (a.resolution m) m cells op → IsSupportedByMode m cells op
    by_array : {op : JOp} → IsOnIntArray op → IsSupportedByMode m cells op
    by_return : {opcode : ℕ} → IsReturn opcode → IsSupportedByMode m cells (jop.Return opcode)
    by_throw : IsSupportedByMode m cells jop.Throw
    by_call : {op : JOp} → IsCalledByMode by l w a bodies results (a.resolution m) m cells op
        → IsSupportedByMode m cells op

  -- each reached instruction of a method in int mode
  abbrev pub AreSupportedByMode : Method → Type 0
  AreSupportedByMode m = (at : ℕ) (i : JInsn) (t : State)
      → slice_get (let f = a.found m in let b = f.body in b.insns) at ≡ Some i
      → HasRow (let f = a.found m in f.types) at t → IsSupportedByMode m (cells_of t.stack) i.op

  -- Each method in int mode has closed tables and is written by them, and each instruction that they reach is
  -- supported. Each reached instruction of another method keeps its rule. Types and arrays are told alike, exceptions
  -- and answers may be thrown, members of scripts are found alike, and both machines start with the same heap and
  -- static cells.
  pub record IsModePackage : Type 0 where
    pub types : TypesAreTold w l
    pub arrays : ClassesAreNamed w l
    pub int_methods : (m : Method) (b : IntBody) → bodies m ≡ Some b → IsIntBegun by l w a bodies results m
    pub supported : (m : Method) (b : IntBody) → bodies m ≡ Some b → AreSupportedByMode m
    pub short_methods : (m : Method) → bodies m ≡ None → (at : ℕ) (p : Point)
        → (let tb = table_of l a in tb.point m at ≡ Some p) → (i : JInsn) × ((slice_get m.insns at ≡ Some i)
        × ShortRule by l (table_of l a) bodies results m at p i)
    pub throwables : ThrowablesMay l a
    pub exceptions : MayRaise l (table_of l a)
    pub answered : IsAnswered by l (table_of l a)
    pub scripted : (id : MemberId) → IsScriptedByMode by l w a bodies results id
    pub starts : Stores l (record { heap = by.heap; statics = by.statics }) l.memory
