-- What the look-ups of both sides say of the names in an instruction.
use Rattle.std.specs.Prelude.{◌≡◌, ℕ, List, [], ◌∷◌, Some, true, false, ℤ}
use Rattle.cjc_bytes.specs.Spots.{desc_of}
use Rattle.cjc_bytes.specs.declared.fault.MemberId.{MemberId}
use Rattle.cjc_range.specs.Span.{Holds, full}
use Rattle.cjc_code.specs.declared.insn.JOp.{JOp}
use Rattle.cjc_code.specs.declared.insn.JOp.TheVariants as jop
use Rattle.cjc_script.specs.Sorts.{OfClass, OfReferences, shape_name, shape_named}
use Rattle.cjc_types.specs.declared.cell.Cell.{Cell}
use Rattle.cjc_types.specs.declared.cell.Cell.TheVariants.{Number, Refs}
use Rattle.cjc_types.specs.Types.{parts, result_of, array_of}
use Rattle.cjc_types.specs.Steps.{operand}
use Rattle.cjc_ncode.specs.Written.{Resolution}
use Rattle.cjc_ncode.specs.ByLabel.{Named}
use Rattle.cjc_jvm_semantics.specs.Linked.{Method, Linked}
use Rattle.cjc_narrow_proof.specs.Selection.Rows.{FieldIsThere}
use Rattle.cjc_narrow_proof.specs.Selection.Objects.{IsMade, IsClassThere, IsTypeThere}
use Rattle.cjc_narrow_proof.specs.Selection.Cells.{CellIsThere, IsConstant}
use Rattle.cjc_narrow_proof.specs.Tables.Kinds.{is_one_of}

-- bytes that are a descriptor have its parts
abbrev pub IsDesc : List ℕ → Type 0
IsDesc desc = desc_of desc ≡ Some (parts desc)

-- A field, a static field, a class or a type that code of m names, on a stack of these types; and arrays of numbers.
pub data IsResolved (by : Linked) (l : Named) (r : Resolution) (m : Method) (cells : List Cell) : JOp → Type 0 where
  a_field : {named : MemberId} → IsDesc named.desc → ((names : List (List ℕ)) → operand cells 0 ≡ Refs names
      → FieldIsThere by l r m named (is_one_of l names)) → IsResolved by l r m cells (jop.Field false named)
  a_put_field : {named : MemberId} → IsDesc named.desc → ((names : List (List ℕ)) → operand cells 1 ≡ Refs names
      → FieldIsThere by l r m named (is_one_of l names)) → IsResolved by l r m cells (jop.Field true named)
  a_static : {named : MemberId} → IsDesc named.desc → CellIsThere by l r m named
      → IsResolved by l r m cells (jop.Static false named)
  a_put_static : {named : MemberId} → IsDesc named.desc → CellIsThere by l r m named
      → IsResolved by l r m cells (jop.Static true named)
  a_constant : {named : MemberId} {z : ℤ} → result_of (parts named.desc).result ≡ Number ∷ [] → Holds full z
      → IsConstant by r m named z → IsResolved by l r m cells (jop.Static false named)
  a_class : {class : List ℕ} → IsMade by l m class → shape_named class ≡ Some (OfClass class)
      → IsResolved by l r m cells (jop.New class)
  an_array : {class : List ℕ} → IsClassThere by l m class → shape_named (array_of class) ≡ Some (OfReferences class)
      → shape_name (OfReferences class) ≡ array_of class → IsResolved by l r m cells (jop.ANewArray class)
  booleans : IsResolved by l r m cells (jop.NewArray 4)
  bytes : IsResolved by l r m cells (jop.NewArray 8)
  shorts : IsResolved by l r m cells (jop.NewArray 9)
  a_cast : {type : List ℕ} → IsTypeThere by l m type → IsResolved by l r m cells (jop.CheckCast type)
  a_test : {type : List ℕ} → IsTypeThere by l m type → IsResolved by l r m cells (jop.InstanceOf type)
