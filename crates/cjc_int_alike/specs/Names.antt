-- What the look-ups of both sides say of the names in code in int mode, and which of its instructions are on arrays.
use Rattle.std.specs.Prelude.{◌≡◌, ℕ, List, [], ◌∷◌, true, false, Some, ℤ}
use Rattle.cjc_bytes.specs.declared.fault.MemberId.{MemberId}
use Rattle.cjc_range.specs.Span.{Holds, full}
use Rattle.cjc_code.specs.Jvm as jvm
use Rattle.cjc_code.specs.declared.insn.JOp.{JOp}
use Rattle.cjc_code.specs.declared.insn.JOp.TheVariants as jop
use Rattle.cjc_script.specs.Sorts.{OfClass, OfReferences, shape_name, shape_named}
use Rattle.cjc_types.specs.declared.cell.Cell.{Cell}
use Rattle.cjc_types.specs.declared.cell.Cell.TheVariants.{Number, Refs}
use Rattle.cjc_types.specs.Types.{parts, result_of, array_of}
use Rattle.cjc_types.specs.Steps.{operand}
use Rattle.cjc_ncode.specs.Written.{Resolution}
use Rattle.cjc_ncode.specs.ByLabel.{Named}
use Rattle.cjc_jvm_semantics.specs.Linked.{Method, Linked}
use Rattle.cjc_narrow_proof.specs.Selection.Cells.{IsConstant}
use Rattle.cjc_narrow_proof.specs.Selection.Objects.{IsMade, IsClassThere, IsTypeThere}
use Rattle.cjc_narrow_proof.specs.Tables.Arrays.{IsOnArray}
use Rattle.cjc_narrow_proof.specs.Tables.Kinds.{is_one_of}
use Rattle.cjc_narrow_proof.specs.Tables.Names.{IsDesc}
use Rattle.cjc_int_runs.specs.Fields.{IntFieldIsThere, IntCellIsThere}

-- A field, a static field, a class or a type that code of m names, on a stack of these types; and arrays of numbers.
pub data IsIntResolved (by : Linked) (l : Named) (r : Resolution) (m : Method) (cells : List Cell) : JOp → Type 0 where
  a_field : {named : MemberId} → IsDesc named.desc → ((names : List (List ℕ)) → operand cells 0 ≡ Refs names
      → IntFieldIsThere by l r m named (is_one_of l names)) → IsIntResolved by l r m cells (jop.Field false named)
  a_put_field : {named : MemberId} → IsDesc named.desc → ((names : List (List ℕ)) → operand cells 1 ≡ Refs names
      → IntFieldIsThere by l r m named (is_one_of l names)) → IsIntResolved by l r m cells (jop.Field true named)
  a_static : {named : MemberId} → IsDesc named.desc → IntCellIsThere by l r m named
      → IsIntResolved by l r m cells (jop.Static false named)
  a_put_static : {named : MemberId} → IsDesc named.desc → IntCellIsThere by l r m named
      → IsIntResolved by l r m cells (jop.Static true named)
  a_constant : {named : MemberId} {z : ℤ} → result_of (parts named.desc).result ≡ Number ∷ [] → Holds full z
      → IsConstant by r m named z → IsIntResolved by l r m cells (jop.Static false named)
  a_class : {class : List ℕ} → IsMade by l m class → shape_named class ≡ Some (OfClass class)
      → IsIntResolved by l r m cells (jop.New class)
  an_array : {class : List ℕ} → IsClassThere by l m class → shape_named (array_of class) ≡ Some (OfReferences class)
      → shape_name (OfReferences class) ≡ array_of class → IsIntResolved by l r m cells (jop.ANewArray class)
  booleans : IsIntResolved by l r m cells (jop.NewArray 4)
  bytes : IsIntResolved by l r m cells (jop.NewArray 8)
  shorts : IsIntResolved by l r m cells (jop.NewArray 9)
  ints : IsIntResolved by l r m cells (jop.NewArray 10)
  a_cast : {type : List ℕ} → IsTypeThere by l m type → IsIntResolved by l r m cells (jop.CheckCast type)
  a_test : {type : List ℕ} → IsTypeThere by l m type → IsIntResolved by l r m cells (jop.InstanceOf type)

-- those on arrays outside int mode, and iaload and iastore
pub data IsOnIntArray : JOp → Type 0 where
  as_outside : {op : JOp} → IsOnArray op → IsOnIntArray op
  iaload : IsOnIntArray (jop.ArrayLoad jvm.iaload)
  iastore : IsOnIntArray (jop.ArrayStore jvm.iastore)
