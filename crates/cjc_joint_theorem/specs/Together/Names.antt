-- What the class files and export files of several packages say of the names in an instruction.
use Rattle.std.specs.Prelude.{◌≡◌, ℕ, Bool, true, false, List, [], ◌∷◌, map, slice_get, Some, ℤ}
use Rattle.std.specs.List.{list_all}
use Rattle.cjc_bytes.specs.declared.fault.MemberId.{MemberId}
use Rattle.cjc_range.specs.Span.{Holds, full}
use Rattle.cjc_code.specs.declared.insn.JInsn.{JInsn}
use Rattle.cjc_code.specs.declared.insn.JOp.{JOp}
use Rattle.cjc_code.specs.declared.insn.JOp.TheVariants as jop
use Rattle.cjc_code.specs.Jvm as jvm
use Rattle.cjc_types.specs.Fixpoint.Tables.{HasRow}
use Rattle.cjc_script.specs.Sorts.{Shape, shape_named}
use Rattle.cjc_world.specs.Classes.{Class, all_classes, class_named}
use Rattle.cjc_world.specs.Files.{Files}
use Rattle.cjc_world.specs.declared.image.StaticImage.{StaticImage}
use Rattle.cjc_types.specs.declared.cell.Cell.{Cell}
use Rattle.cjc_types.specs.declared.cell.Cell.TheVariants.{Number, Refs}
use Rattle.cjc_types.specs.declared.state.State.{State}
use Rattle.cjc_types.specs.Search.{cells_of}
use Rattle.cjc_types.specs.Steps.{operand}
use Rattle.cjc_types.specs.Types.{parts, result_of}
use Rattle.cjc_ncode.specs.ByLabel.{Named}
use Rattle.cjc_jvm_semantics.specs.Linked.{Method, ResolvedField, Constant, Static, Instance}
use Rattle.cjc_jvm_semantics.specs.OnePackage.{field_named, made_of, cells}
use Rattle.cjc_jvm_semantics.specs.Group.{joint, field_from, have_class}
use Rattle.cjc_narrow_proof.specs.Selection.Relation.{IsMadeOf}
use Rattle.cjc_narrow_proof.specs.Selection.Rows.{lists, HasField}
use Rattle.cjc_narrow_proof.specs.Selection.Objects.{is_field}
use Rattle.cjc_narrow_proof.specs.Tables.Kinds.{is_one_of}
use Rattle.cjc_narrow_proof.specs.Tables.Supported.{IsPlain, IsReturn}
use Rattle.cjc_narrow_proof.specs.Tables.Arrays.{IsOnArray}
use Rattle.cjc_narrow_proof.specs.Runs.Names.{IsWordField}
use Rattle.cjc_narrow_proof.specs.Runs.Tables.{Tables}
use Rattle.cjc_joint_theorem.specs.Together.Homes.{Homes, joint_world, files_for, group_look_ups, IsThereIn}
use Rattle.cjc_joint_theorem.specs.Together.Calls.{IsStaticIn, IsReceiverIn}

-- A field that a package names is this one in its own world and in the joint one.
pub record IsFieldIn (group : List Files) (p : Files) (named : MemberId) (field : ResolvedField) : Type 0 where
  pub own : field_named p (all_classes p) named ≡ Some field
  pub together : field_from (joint group) (joint_world group) named p ≡ Some field

module _ (group : List Files) (image : StaticImage) (homes : Homes) (tables : Tables) (m : Method) where
  -- the look-ups of narrow code
  abbrev pub narrow_look_ups : Named
  narrow_look_ups = group_look_ups group image homes tables

  -- The field is found, and objects on the stack that may be its receivers have it.
  pub record IsInstanceIn (named f : MemberId) (receiver : Cell) : Type 0 where
    pub desc : IsWordField named.desc
    pub found : IsFieldIn group (files_for homes m) named (Instance f)
    pub has : (names : List (List ℕ)) → receiver ≡ Refs names → (kind : Shape (List ℕ))
        → is_one_of narrow_look_ups names kind ≡ true → IsMadeOf narrow_look_ups kind → HasField narrow_look_ups f kind

  -- The static field is found, and is one of the packages' static cells.
  pub record IsCellIn (named f : MemberId) : Type 0 where
    pub desc : IsWordField named.desc
    pub found : IsFieldIn group (files_for homes m) named (Static f)
    pub has : lists (map (λ cell. cell.field) (cells image (let j = joint group in j.classes))) f ≡ true

  -- An instruction in code of m, on a stack of these types: it names nothing, or what the class files and export files
  -- have.
  pub data IsNamedIn (stack : List Cell) : JOp → Type 0 where
    names_nothing : {op : JOp} → IsPlain op → IsNamedIn stack op
    is_on_array : {op : JOp} → IsOnArray op → IsNamedIn stack op
    returns : {opcode : ℕ} → IsReturn opcode → IsNamedIn stack (jop.Return opcode)
    throws : IsNamedIn stack jop.Throw
    a_field : {named : MemberId} (f : MemberId) → IsInstanceIn named f (operand stack 0)
        → IsNamedIn stack (jop.Field false named)
    a_put_field : {named : MemberId} (f : MemberId) → IsInstanceIn named f (operand stack 1)
        → IsNamedIn stack (jop.Field true named)
    a_static : {put : Bool} {named : MemberId} (f : MemberId) → IsCellIn named f
        → IsNamedIn stack (jop.Static put named)
    a_constant : {named : MemberId} (z : ℤ) → result_of (parts named.desc).result ≡ Number ∷ [] → Holds full z
        → IsFieldIn group (files_for homes m) named (Constant z) → IsNamedIn stack (jop.Static false named)
    a_class : {class : List ℕ} (fields : List MemberId) → have_class (Some (files_for homes m)) class ≡ true
        → made_of (joint_world group) class ≡ Some fields → list_all is_field fields ≡ true
        → IsNamedIn stack (jop.New class)
    an_array : {class : List ℕ} (c : Class) → have_class (Some (files_for homes m)) class ≡ true
        → class_named (joint_world group) class ≡ Some c → IsNamedIn stack (jop.ANewArray class)
    booleans : IsNamedIn stack (jop.NewArray 4)
    bytes : IsNamedIn stack (jop.NewArray 8)
    shorts : IsNamedIn stack (jop.NewArray 9)
    a_cast : {type : List ℕ} (kind : Shape (List ℕ)) → shape_named type ≡ Some kind
        → IsThereIn group (files_for homes m) kind → IsNamedIn stack (jop.CheckCast type)
    a_test : {type : List ℕ} (kind : Shape (List ℕ)) → shape_named type ≡ Some kind
        → IsThereIn group (files_for homes m) kind → IsNamedIn stack (jop.InstanceOf type)
    a_static_call : {id : MemberId} → IsStaticIn group homes tables (files_for homes m) id
        → IsNamedIn stack (jop.Call jvm.invokestatic id)
    a_call_on_receiver : {op : ℕ} {id : MemberId} → IsReceiverIn group narrow_look_ups homes tables (files_for homes m)
        (let id = m.id in id.class) stack op id → IsNamedIn stack (jop.Call op id)

  -- each reached instruction
  abbrev pub AreNamedIn : Type 0
  AreNamedIn = (at : ℕ) (i : JInsn) (t : State) → slice_get m.insns at ≡ Some i → HasRow (tables.types m) at t
      → IsNamedIn (cells_of t.stack) i.op
