-- A package as whole runs ask it: which of its methods are reached, what their instructions name, and what scripts may
-- call.
use Rattle.std.specs.Prelude.{◌≡◌, ℕ, Bool, true, false, List, slice_get, Some, option_map}
use Rattle.cjc_bytes.specs.declared.fault.MemberId.{MemberId}
use Rattle.cjc_code.specs.declared.insn.JInsn.{JInsn}
use Rattle.cjc_code.specs.declared.insn.JOp.{JOp}
use Rattle.cjc_code.specs.declared.insn.JOp.TheVariants as jop
use Rattle.cjc_types.specs.Fixpoint.Tables.{HasRow}
use Rattle.cjc_script.specs.Sorts.{Shape, shape_name}
use Rattle.cjc_world.specs.Classes.{Class}
use Rattle.cjc_types.specs.declared.cell.Cell.{Cell}
use Rattle.cjc_types.specs.declared.state.State.{State}
use Rattle.cjc_types.specs.Search.{cells_of}
use Rattle.cjc_ncode.specs.ByLabel.{Named}
use Rattle.cjc_jvm_semantics.specs.Linked.{Method, Linked}
use Rattle.cjc_narrow_proof.specs.Selection.Relation.{IsMadeOf, Stores}
use Rattle.cjc_narrow_proof.specs.Selection.Entries.{AreGiven, IsNoEntry}
use Rattle.cjc_narrow_proof.specs.Selection.Tables.{Point, MayRaise}
use Rattle.cjc_narrow_proof.specs.Selection.Reached.{IsAnswered}
use Rattle.cjc_narrow_proof.specs.Tables.Kinds.{is_named}
use Rattle.cjc_narrow_proof.specs.Tables.Analysis.{Analysis, TypesAreTold, ThrowablesMay, table_of}
use Rattle.cjc_narrow_proof.specs.Tables.Supported.{IsPlain, IsReturn}
use Rattle.cjc_narrow_proof.specs.Tables.Names.{IsResolved}
use Rattle.cjc_narrow_proof.specs.Tables.Arrays.{ClassesAreNamed, IsOnArray}
use Rattle.cjc_narrow_proof.specs.Tables.Calls.{IsWordDesc, types_of, IsWhole, IsReachedBy, IsCalled}

-- An instruction in code of m, on a stack of these types, is one that the card has, and what it names is found alike on
-- both sides.
pub data IsSupported (by : Linked) (l : Named) (w : List Class) (a : Analysis) (m : Method) (cells : List Cell) : JOp
    → Type 0 where
  names_nothing : {op : JOp} → IsPlain op → IsSupported by l w a m cells op
  is_resolved : {op : JOp} → IsResolved by l (a.resolution m) m cells op → IsSupported by l w a m cells op
  is_on_array : {op : JOp} → IsOnArray op → IsSupported by l w a m cells op
  returns : {opcode : ℕ} → IsReturn opcode → IsSupported by l w a m cells (jop.Return opcode)
  throws : IsSupported by l w a m cells jop.Throw
  calls : {op : JOp} → IsCalled by l w a m cells op → IsSupported by l w a m cells op

-- a call or a return: with these the frame changes
abbrev pub leaves_frame : JOp → Bool
leaves_frame (jop.Return opcode) = true
leaves_frame (jop.Call opcode id) = true
leaves_frame op = false

-- each reached instruction of a method
abbrev pub AreSupported : Linked → Named → List Class → Analysis → Method → Type 0
AreSupported by l w a m = (at : ℕ) (i : JInsn) (t : State) → slice_get (let f = a.found m in let b = f.body
    in b.insns) at ≡ Some i → HasRow (let f = a.found m in f.types) at t
    → IsSupported by l w a m (cells_of t.stack) i.op

-- ---- entries

-- A member that scripts may call or send: both sides find the same methods of the package, with this descriptor, which
-- are sent to objects
-- of the classes that declare them.
pub record IsEntered (by : Linked) (l : Named) (w : List Class) (a : Analysis) (id : MemberId) : Type 0 where
  pub desc : IsWordDesc id.desc
  pub given : AreGiven by l (let types = types_of id.desc in types.params)
  pub called : l.called id ≡ option_map a.narrowed (by.entry id)
  pub sent : (kind : Shape (List ℕ)) → l.sent kind id ≡ option_map a.narrowed (by.sent (shape_name kind) id)
  pub is_called : (m : Method) → by.entry id ≡ Some m → IsReachedBy by l w a false id.desc m
  pub is_sent : (kind : Shape (List ℕ)) (m : Method) → IsMadeOf l kind → by.sent (shape_name kind) id ≡ Some m
      → IsReachedBy by l w a true id.desc m
  pub receives : (kind : Shape (List ℕ)) (m : Method) → IsMadeOf l kind → by.sent (shape_name kind) id ≡ Some m
      → is_named l (let f = a.found m in let b = f.body in b.class) kind ≡ true

-- A member of a script is one of these, or no method is found for it.
pub data IsScripted (by : Linked) (l : Named) (w : List Class) (a : Analysis) (id : MemberId) : Type 0 where
  no_method : IsNoEntry by l id → IsScripted by l w a id
  methods : IsEntered by l w a id → IsScripted by l w a id

-- ---- a package

-- Each method with a reached instruction is whole, and each such instruction is supported; types and arrays are told
-- alike, exceptions and
-- answers may be thrown, members of scripts are found alike, and both machines start with the same heap and static
-- cells.
pub record IsPackage (by : Linked) (l : Named) (w : List Class) (a : Analysis) : Type 0 where
  pub types : TypesAreTold w l
  pub arrays : ClassesAreNamed w l
  pub methods : (m : Method) (at : ℕ) (p : Point) → (let tb = table_of l a in tb.point m at ≡ Some p)
      → IsWhole by l w a m
  pub supported : (m : Method) → IsWhole by l w a m → AreSupported by l w a m
  pub throwables : ThrowablesMay l a
  pub exceptions : MayRaise l (table_of l a)
  pub answered : IsAnswered by l (table_of l a)
  pub scripted : (id : MemberId) → IsScripted by l w a id
  pub starts : Stores l (record { heap = by.heap; statics = by.statics }) l.memory
