-- What the class files and export files say of the names in an instruction.
use Rattle.std.specs.Prelude.{◌≡◌, ℕ, Bool, true, false, List, [], ◌∷◌, map, slice_get, Some, ℤ}
use Rattle.std.specs.List.{list_all}
use Rattle.cjc_bytes.specs.declared.fault.MemberId.{MemberId}
use Rattle.cjc_range.specs.Span.{Holds, full}
use Rattle.cjc_code.specs.declared.insn.JInsn.{JInsn}
use Rattle.cjc_code.specs.declared.insn.JOp.{JOp}
use Rattle.cjc_code.specs.declared.insn.JOp.TheVariants as jop
use Rattle.cjc_code.specs.Jvm as jvm
use Rattle.cjc_types.specs.Fixpoint.Tables.{HasRow}
use Rattle.cjc_script.specs.Sorts.{Shape, shape_named, field_sort}
use Rattle.cjc_world.specs.Classes.{Class, all_classes, class_named}
use Rattle.cjc_world.specs.Files.{Files}
use Rattle.cjc_world.specs.declared.image.StaticImage.{StaticImage}
use Rattle.cjc_types.specs.declared.cell.Cell.{Cell}
use Rattle.cjc_types.specs.declared.cell.Cell.TheVariants.{Number, Refs}
use Rattle.cjc_types.specs.declared.state.State.{State}
use Rattle.cjc_types.specs.Search.{cells_of}
use Rattle.cjc_types.specs.Steps.{operand}
use Rattle.cjc_types.specs.Types.{parts, result_of}
use Rattle.cjc_jvm_semantics.specs.Linked.{Method, Constant, Static, Instance}
use Rattle.cjc_jvm_semantics.specs.OnePackage.{field_named, made_of, cells}
use Rattle.cjc_narrow_proof.specs.Selection.Relation.{IsMadeOf}
use Rattle.cjc_narrow_proof.specs.Selection.Rows.{is_word_sort, lists, HasField}
use Rattle.cjc_narrow_proof.specs.Selection.Objects.{is_field}
use Rattle.cjc_narrow_proof.specs.Tables.Kinds.{is_one_of}
use Rattle.cjc_narrow_proof.specs.Tables.Supported.{IsPlain, IsReturn}
use Rattle.cjc_narrow_proof.specs.Tables.Arrays.{IsOnArray}
use Rattle.cjc_narrow_proof.specs.Tables.Names.{IsDesc}
use Rattle.cjc_narrow_proof.specs.Runs.Tables.{Tables, look_ups}
use Rattle.cjc_narrow_proof.specs.Runs.Types.{IsThere}
use Rattle.cjc_narrow_proof.specs.Runs.Calls.{IsStaticOn, IsReceiverOn}

-- The descriptor of a field whose values are one word.
pub record IsWordField (desc : List ℕ) : Type 0 where
  pub is_desc : IsDesc desc
  pub one_word : is_word_sort (field_sort desc) ≡ true

module _ (files : Files) (image : StaticImage) (near : List MemberId) (tables : Tables) (m : Method) where
  -- The field is found, and objects on the stack that may be its receivers have it.
  pub record IsFieldOf (named f : MemberId) (receiver : Cell) : Type 0 where
    pub desc : IsWordField named.desc
    pub found : field_named files (all_classes files) named ≡ Some (Instance f)
    pub has : (names : List (List ℕ)) → receiver ≡ Refs names → (kind : Shape (List ℕ))
        → is_one_of (look_ups files image near tables) names kind ≡ true
        → IsMadeOf (look_ups files image near tables) kind → HasField (look_ups files image near tables) f kind

  -- The static field is found, and is one of the package's static cells.
  pub record IsStaticOf (named f : MemberId) : Type 0 where
    pub desc : IsWordField named.desc
    pub found : field_named files (all_classes files) named ≡ Some (Static f)
    pub has : lists (map (λ cell. cell.field) (cells image files.classes)) f ≡ true

  -- An instruction in code of m, on a stack of these types: it names nothing, or what the class files and export files
  -- have.
  pub data IsNamed (stack : List Cell) : JOp → Type 0 where
    names_nothing : {op : JOp} → IsPlain op → IsNamed stack op
    is_on_array : {op : JOp} → IsOnArray op → IsNamed stack op
    returns : {opcode : ℕ} → IsReturn opcode → IsNamed stack (jop.Return opcode)
    throws : IsNamed stack jop.Throw
    a_field : {named : MemberId} (f : MemberId) → IsFieldOf named f (operand stack 0)
        → IsNamed stack (jop.Field false named)
    a_put_field : {named : MemberId} (f : MemberId) → IsFieldOf named f (operand stack 1)
        → IsNamed stack (jop.Field true named)
    a_static : {put : Bool} {named : MemberId} (f : MemberId) → IsStaticOf named f
        → IsNamed stack (jop.Static put named)
    a_constant : {named : MemberId} (z : ℤ) → result_of (parts named.desc).result ≡ Number ∷ [] → Holds full z
        → field_named files (all_classes files) named ≡ Some (Constant z) → IsNamed stack (jop.Static false named)
    a_class : {class : List ℕ} (fields : List MemberId) → made_of (all_classes files) class ≡ Some fields
        → list_all is_field fields ≡ true → IsNamed stack (jop.New class)
    an_array : {class : List ℕ} (c : Class) → class_named (all_classes files) class ≡ Some c
        → IsNamed stack (jop.ANewArray class)
    booleans : IsNamed stack (jop.NewArray 4)
    bytes : IsNamed stack (jop.NewArray 8)
    shorts : IsNamed stack (jop.NewArray 9)
    a_cast : {type : List ℕ} (kind : Shape (List ℕ)) → shape_named type ≡ Some kind → IsThere (all_classes files) kind
        → IsNamed stack (jop.CheckCast type)
    a_test : {type : List ℕ} (kind : Shape (List ℕ)) → shape_named type ≡ Some kind → IsThere (all_classes files) kind
        → IsNamed stack (jop.InstanceOf type)
    a_static_call : {id : MemberId} → IsStaticOn files tables id → IsNamed stack (jop.Call jvm.invokestatic id)
    a_call_on_receiver : {op : ℕ} {id : MemberId} → IsReceiverOn files (look_ups files image near tables) tables
        (let id = m.id in id.class) stack op id → IsNamed stack (jop.Call op id)

  -- each reached instruction
  abbrev pub AreNamed : Type 0
  AreNamed = (at : ℕ) (i : JInsn) (t : State) → slice_get m.insns at ≡ Some i → HasRow (tables.types m) at t
      → IsNamed (cells_of t.stack) i.op
