-- What the class files and export files say of the names in an instruction of a method in int mode.
use Rattle.std.specs.Prelude.{◌≡◌, ◌==◌, ℕ, Bool, true, false, List, [], ◌∷◌, map, Some, ℤ}
use Rattle.std.specs.List.{list_all}
use Rattle.cjc_bytes.specs.declared.fault.MemberId.{MemberId}
use Rattle.cjc_range.specs.Span.{Holds, full}
use Rattle.cjc_code.specs.Jvm as jvm
use Rattle.cjc_code.specs.declared.insn.JOp.{JOp}
use Rattle.cjc_code.specs.declared.insn.JOp.TheVariants as jop
use Rattle.cjc_script.specs.Sorts.{Shape, shape_named, field_sort}
use Rattle.cjc_world.specs.Classes.{Class, all_classes, class_named}
use Rattle.cjc_world.specs.Files.{Files}
use Rattle.cjc_world.specs.declared.image.StaticImage.{StaticImage}
use Rattle.cjc_types.specs.declared.cell.Cell.{Cell}
use Rattle.cjc_types.specs.declared.cell.Cell.TheVariants.{Number, Refs}
use Rattle.cjc_types.specs.Steps.{operand}
use Rattle.cjc_types.specs.Types.{parts, result_of}
use Rattle.cjc_jvm_semantics.specs.ByName.{linked}
use Rattle.cjc_jvm_semantics.specs.Linked.{Method, Constant, Static, Instance}
use Rattle.cjc_jvm_semantics.specs.OnePackage.{field_named, made_of, cells}
use Rattle.cjc_narrow_proof.specs.Runs.Tables.{Tables}
use Rattle.cjc_narrow_proof.specs.Runs.Types.{IsThere}
use Rattle.cjc_narrow_proof.specs.Selection.Objects.{is_field}
use Rattle.cjc_narrow_proof.specs.Selection.Relation.{IsMadeOf}
use Rattle.cjc_narrow_proof.specs.Selection.Rows.{lists, HasField, is_word_sort}
use Rattle.cjc_narrow_proof.specs.Tables.Calls.{IsWordDesc}
use Rattle.cjc_narrow_proof.specs.Tables.Kinds.{is_one_of}
use Rattle.cjc_narrow_proof.specs.Tables.Names.{IsDesc}
use Rattle.cjc_narrow_proof.specs.Tables.Supported.{IsPlain, IsReturn}
use Rattle.cjc_int_runs.specs.Fields.{has_values}
use Rattle.cjc_int_alike.specs.ByModes.{analysis_by_mode, bodies_by_mode, int_resolution, look_ups_by_mode, result_in}
use Rattle.cjc_int_alike.specs.Callees.{IsCalledByMode}
use Rattle.cjc_int_alike.specs.Names.{IsOnIntArray}

-- The descriptor of a field of some values.
pub record IsFieldDesc (desc : List ℕ) : Type 0 where
  pub is_desc : IsDesc desc
  pub some_value : has_values (field_sort desc) ≡ true

-- What an instruction names in a method that is not in int mode has one word: a field, parameters and a result, the
-- elements of arrays.
abbrev pub IsOneWord : JOp → Type 0
IsOneWord (jop.Field put id) = is_word_sort (field_sort id.desc) ≡ true
IsOneWord (jop.Static put id) = is_word_sort (field_sort id.desc) ≡ true
IsOneWord (jop.Call op id) = IsWordDesc id.desc
IsOneWord (jop.NewArray n) = (n == 10) ≡ false
IsOneWord (jop.ArrayLoad n) = (n == jvm.iaload) ≡ false
IsOneWord (jop.ArrayStore n) = (n == jvm.iastore) ≡ false
IsOneWord op = Unit {0}

module _ (files : Files) (image : StaticImage) (near : List MemberId) (tables : Tables) (is_int : Method → Bool)
    (m : Method) where
  -- The field is found, and objects on the stack that may be its receivers have it.
  pub record IsIntFieldOf (named f : MemberId) (receiver : Cell) : Type 0 where
    pub desc : IsFieldDesc named.desc
    pub found : field_named files (all_classes files) named ≡ Some (Instance f)
    pub has : (names : List (List ℕ)) → receiver ≡ Refs names → (kind : Shape (List ℕ))
        → is_one_of (look_ups_by_mode files image near tables is_int) names kind ≡ true
        → IsMadeOf (look_ups_by_mode files image near tables is_int) kind
        → HasField (look_ups_by_mode files image near tables is_int) f kind

  -- The static field is found, and is one of the package's static cells.
  pub record IsIntStaticOf (named f : MemberId) : Type 0 where
    pub desc : IsFieldDesc named.desc
    pub found : field_named files (all_classes files) named ≡ Some (Static f)
    pub has : lists (map (λ cell. cell.field) (cells image files.classes)) f ≡ true

  -- An instruction in code of m, on a stack of these types: it names nothing, or what the class files and export files
  -- have, as code in int mode may name it; a call reaches the same on both sides.
  pub data IsIntNamed (stack : List Cell) : JOp → Type 0 where
    names_nothing : {op : JOp} → IsPlain op → IsIntNamed stack op
    is_on_array : {op : JOp} → IsOnIntArray op → IsIntNamed stack op
    returns : {opcode : ℕ} → IsReturn opcode → IsIntNamed stack (jop.Return opcode)
    throws : IsIntNamed stack jop.Throw
    a_field : {named : MemberId} (f : MemberId) → IsIntFieldOf named f (operand stack 0)
        → IsIntNamed stack (jop.Field false named)
    a_put_field : {named : MemberId} (f : MemberId) → IsIntFieldOf named f (operand stack 1)
        → IsIntNamed stack (jop.Field true named)
    a_static : {put : Bool} {named : MemberId} (f : MemberId) → IsIntStaticOf named f
        → IsIntNamed stack (jop.Static put named)
    a_constant : {named : MemberId} (z : ℤ) → result_of (parts named.desc).result ≡ Number ∷ [] → Holds full z
        → field_named files (all_classes files) named ≡ Some (Constant z) → IsIntNamed stack (jop.Static false named)
    a_class : {class : List ℕ} (fields : List MemberId) → made_of (all_classes files) class ≡ Some fields
        → list_all is_field fields ≡ true → IsIntNamed stack (jop.New class)
    an_array : {class : List ℕ} (c : Class) → class_named (all_classes files) class ≡ Some c
        → IsIntNamed stack (jop.ANewArray class)
    booleans : IsIntNamed stack (jop.NewArray 4)
    bytes : IsIntNamed stack (jop.NewArray 8)
    shorts : IsIntNamed stack (jop.NewArray 9)
    ints : IsIntNamed stack (jop.NewArray 10)
    a_cast : {type : List ℕ} (kind : Shape (List ℕ)) → shape_named type ≡ Some kind → IsThere (all_classes files) kind
        → IsIntNamed stack (jop.CheckCast type)
    a_test : {type : List ℕ} (kind : Shape (List ℕ)) → shape_named type ≡ Some kind → IsThere (all_classes files) kind
        → IsIntNamed stack (jop.InstanceOf type)
    calls : {op : JOp} → IsCalledByMode (linked files image) (look_ups_by_mode files image near tables is_int)
        (all_classes files) (analysis_by_mode files image near tables is_int)
        (bodies_by_mode files image near tables is_int) (result_in files image near tables is_int)
        (int_resolution files image near tables is_int m) m stack op → IsIntNamed stack op
