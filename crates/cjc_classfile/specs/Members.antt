-- Fields and attributes (Java Virtual Machine Specification, sections 4.5, 4.7 and 4.7.2).
use Rattle.std.specs.Prelude.{ℕ, ℤ, Bool, true, false, List, Option, Some, None, option_and_then, slice_get, is_some}
use Rattle.std.specs.Prelude.{◌==◌, ◌&&◌, if◌then◌else◌, codes}
use Rattle.std.specs.Int.{w16, w32}
use Rattle.std.specs.Str.{bytes_eq}
use Rattle.cjc_bytes.specs.AccessFlags.{is_static}
use Rattle.cjc_bytes.specs.Format.{Format, number, gives, ◌>>=◌, iterated, u2, u4, raw}
use Rattle.cjc_classfile.specs.declared.tree.FieldTree.{FieldTree}
use Rattle.cjc_classfile.specs.Entry.{Entry, integer, float, wide, string}
use Rattle.cjc_classfile.specs.Items.{text_at, desc_of_at, class_name_at}

-- the index of a text, of the descriptor of a field or method, or of a class
unfoldable pub text_field : List Entry → Format (List ℕ)
text_field pool = number w16 (text_at pool)

-- the index of the descriptor of a method, or of a field; gives its bytes
unfoldable pub desc_field : List Entry → Bool → Format (List ℕ)
desc_field pool is_method = number w16 (desc_of_at pool is_method)

-- the index of a class; gives its name
unfoldable pub class_field : List Entry → Format (List ℕ)
class_field pool = number w16 (class_name_at pool)

-- an attribute behind its name, whatever it says
unfoldable pub skipped : Format Unit
skipped = do
  length ← u4
  free ← raw length
  gives tt

-- an attribute, whatever it says
unfoldable pub attribute : List Entry → Format Unit
attribute pool = do
  name ← text_field pool
  skipped

-- ---- fields

-- what is known of a field's constant: whether it has come, and its number where it has one
abbrev pub Constant : Type 0
Constant = Option (Option ℤ)

-- whether an attribute of a field is its constant; only a static field has one, and only one
abbrev pub is_constant : Bool → Constant → List ℕ → Option Bool
is_constant static so_far name =
    if static && bytes_eq name (codes "ConstantValue") then (if is_some so_far then None else Some true)
    else Some false

-- the number of a CONSTANT_Integer, or no number for another entry that a ConstantValue attribute may name
abbrev pub constant_of : Entry → Option (Option ℤ)
constant_of (integer n) = Some (Some n)
constant_of float = Some None
constant_of wide = Some None
constant_of (string value) = Some None
constant_of _ = None

-- what a ConstantValue attribute gives that names the entry at this index
unfoldable pub constant_at : List Entry → ℕ → Option (Option ℤ)
constant_at pool i = option_and_then constant_of (slice_get pool i)

-- the one number that may stand there
abbrev pub exactly : ℕ → ℕ → Option ℕ
exactly m n = if n == m then Some n else None

-- what stands behind the name of a field's attribute: a ConstantValue's length and index, or anything
unfoldable pub constant_content : List Entry → Bool → Constant → Format Constant
constant_content pool true so_far = do
  length ← number w32 (exactly 2)
  value ← number w16 (constant_at pool)
  gives (Some value)
constant_content pool false so_far = do
  free ← skipped
  gives so_far

-- whether the attribute whose name is at this index is the field's constant
unfoldable pub constant_name_at : List Entry → Bool → Constant → ℕ → Option Bool
constant_name_at pool static so_far i = option_and_then (is_constant static so_far) (text_at pool i)

-- an attribute of a field, with what is known of the constant before it and then behind it
unfoldable pub field_attribute : List Entry → Bool → ℕ → Constant → Format Constant
field_attribute pool static behind so_far =
    number w16 (constant_name_at pool static so_far) >>= λ constant. constant_content pool constant so_far

-- the number of a field's constant, where it has come and is an integer
abbrev pub value_of : Constant → Option ℤ
value_of (Some value) = value
value_of None = None

-- a field_info: its flags, name, descriptor and attributes, of which the constant is kept
unfoldable pub field_tree : List Entry → Format FieldTree
field_tree pool = do
  flags ← u2
  name ← text_field pool
  desc ← desc_field pool false
  count ← u2
  constant ← iterated count (field_attribute pool (is_static flags)) None
  gives (record { flags = flags; name = name; desc = desc; constant = value_of constant })
