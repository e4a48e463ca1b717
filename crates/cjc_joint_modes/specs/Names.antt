-- What the class files and export files of several packages say of the names in an instruction in code of either mode.
use Rattle.std.specs.Prelude.{◌≡◌, ℕ, Bool, true, false, List, [], ◌∷◌, map, slice_get, Some, ℤ}
use Rattle.std.specs.List.{list_all}
use Rattle.cjc_bytes.specs.declared.fault.MemberId.{MemberId}
use Rattle.cjc_range.specs.Span.{Holds, full}
use Rattle.cjc_code.specs.declared.insn.JInsn.{JInsn}
use Rattle.cjc_code.specs.declared.insn.JOp.{JOp}
use Rattle.cjc_code.specs.declared.insn.JOp.TheVariants as jop
use Rattle.cjc_code.specs.Jvm as jvm
use Rattle.cjc_types.specs.Fixpoint.Tables.{HasRow}
use Rattle.cjc_script.specs.Sorts.{Shape, shape_named}
use Rattle.cjc_world.specs.Classes.{Class, class_named}
use Rattle.cjc_world.specs.Files.{Files}
use Rattle.cjc_world.specs.declared.image.StaticImage.{StaticImage}
use Rattle.cjc_types.specs.declared.cell.Cell.{Cell}
use Rattle.cjc_types.specs.declared.cell.Cell.TheVariants.{Number, Refs}
use Rattle.cjc_types.specs.declared.state.State.{State}
use Rattle.cjc_types.specs.Search.{cells_of}
use Rattle.cjc_types.specs.Steps.{operand}
use Rattle.cjc_types.specs.Types.{parts, result_of}
use Rattle.cjc_ncode.specs.ByLabel.{Named}
use Rattle.cjc_jvm_semantics.specs.Linked.{Method, Constant, Static, Instance}
use Rattle.cjc_jvm_semantics.specs.OnePackage.{made_of, cells}
use Rattle.cjc_jvm_semantics.specs.Group.{joint, have_class}
use Rattle.cjc_narrow_proof.specs.Selection.Relation.{IsMadeOf}
use Rattle.cjc_narrow_proof.specs.Selection.Rows.{lists, HasField}
use Rattle.cjc_narrow_proof.specs.Selection.Objects.{is_field}
use Rattle.cjc_narrow_proof.specs.Tables.Kinds.{is_one_of}
use Rattle.cjc_narrow_proof.specs.Tables.Supported.{IsPlain, IsReturn}
use Rattle.cjc_narrow_proof.specs.Runs.Tables.{Tables}
use Rattle.cjc_int_alike.specs.Named.{IsFieldDesc}
use Rattle.cjc_int_alike.specs.Names.{IsOnIntArray}
use Rattle.cjc_joint_theorem.specs.Together.Homes.{Homes, joint_world, files_for, IsThereIn}
use Rattle.cjc_joint_theorem.specs.Together.Names.{IsFieldIn}
use Rattle.cjc_joint_modes.specs.Calls.{IsIntStaticIn, IsIntReceiverIn}
use Rattle.cjc_joint_modes.specs.Codes.{group_look_ups_by_mode}

module _ (group : List Files) (image : StaticImage) (homes : Homes) (tables : Tables) (is_int : Method → Bool)
    (m : Method) where
  -- the look-ups of narrow code
  abbrev pub narrow_look_ups : Named
  narrow_look_ups = group_look_ups_by_mode group image homes tables is_int

  -- The field is found, and objects on the stack that may be its receivers have it.
  pub record IsIntInstanceIn (named f : MemberId) (receiver : Cell) : Type 0 where
    pub desc : IsFieldDesc named.desc
    pub found : IsFieldIn group (files_for homes m) named (Instance f)
    pub has : (names : List (List ℕ)) → receiver ≡ Refs names → (kind : Shape (List ℕ))
        → is_one_of narrow_look_ups names kind ≡ true → IsMadeOf narrow_look_ups kind → HasField narrow_look_ups f kind

  -- The static field is found, and is one of the packages' static cells.
  pub record IsIntCellIn (named f : MemberId) : Type 0 where
    pub desc : IsFieldDesc named.desc
    pub found : IsFieldIn group (files_for homes m) named (Static f)
    pub has : lists (map (λ cell. cell.field) (cells image (let j = joint group in j.classes))) f ≡ true

  -- An instruction in code of m, on a stack of these types: it names nothing, or what the class files and export files
  -- have, as code in int mode may name it.
  pub data IsIntNamedIn (stack : List Cell) : JOp → Type 0 where
    names_nothing : {op : JOp} → IsPlain op → IsIntNamedIn stack op
    is_on_array : {op : JOp} → IsOnIntArray op → IsIntNamedIn stack op
    returns : {opcode : ℕ} → IsReturn opcode → IsIntNamedIn stack (jop.Return opcode)
    throws : IsIntNamedIn stack jop.Throw
    a_field : {named : MemberId} (f : MemberId) → IsIntInstanceIn named f (operand stack 0)
        → IsIntNamedIn stack (jop.Field false named)
    a_put_field : {named : MemberId} (f : MemberId) → IsIntInstanceIn named f (operand stack 1)
        → IsIntNamedIn stack (jop.Field true named)
    a_static : {put : Bool} {named : MemberId} (f : MemberId) → IsIntCellIn named f
        → IsIntNamedIn stack (jop.Static put named)
    a_constant : {named : MemberId} (z : ℤ) → result_of (parts named.desc).result ≡ Number ∷ [] → Holds full z
        → IsFieldIn group (files_for homes m) named (Constant z) → IsIntNamedIn stack (jop.Static false named)
    a_class : {class : List ℕ} (fields : List MemberId) → have_class (Some (files_for homes m)) class ≡ true
        → made_of (joint_world group) class ≡ Some fields → list_all is_field fields ≡ true
        → IsIntNamedIn stack (jop.New class)
    an_array : {class : List ℕ} (c : Class) → have_class (Some (files_for homes m)) class ≡ true
        → class_named (joint_world group) class ≡ Some c → IsIntNamedIn stack (jop.ANewArray class)
    booleans : IsIntNamedIn stack (jop.NewArray 4)
    bytes : IsIntNamedIn stack (jop.NewArray 8)
    shorts : IsIntNamedIn stack (jop.NewArray 9)
    ints : IsIntNamedIn stack (jop.NewArray 10)
    a_cast : {type : List ℕ} (kind : Shape (List ℕ)) → shape_named type ≡ Some kind
        → IsThereIn group (files_for homes m) kind → IsIntNamedIn stack (jop.CheckCast type)
    a_test : {type : List ℕ} (kind : Shape (List ℕ)) → shape_named type ≡ Some kind
        → IsThereIn group (files_for homes m) kind → IsIntNamedIn stack (jop.InstanceOf type)
    a_static_call : {id : MemberId} → IsIntStaticIn group homes tables is_int id (files_for homes m)
        → IsIntNamedIn stack (jop.Call jvm.invokestatic id)
    a_call_on_receiver : {op : ℕ} {id : MemberId} → IsIntReceiverIn group homes tables is_int id narrow_look_ups
        (files_for homes m) (let n = m.id in n.class) stack op → IsIntNamedIn stack (jop.Call op id)

  -- each reached instruction
  abbrev pub AreIntNamedIn : Type 0
  AreIntNamedIn = (at : ℕ) (i : JInsn) (t : State) → slice_get m.insns at ≡ Some i → HasRow (tables.types m) at t
      → IsIntNamedIn (cells_of t.stack) i.op
