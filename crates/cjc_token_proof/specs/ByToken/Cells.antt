-- The static fields of a package by name, and the static field image that holds them (Java Card Virtual Machine
-- Specification 2.2.2, section 6.10).
use Rattle.std.specs.Prelude.{◌≡◌, ℕ, ◌+◌, List, [], ◌∷◌, ◌++◌, map, Option, Some, None, Bool, true, false, not, ◌&&◌}
use Rattle.std.specs.Prelude.{if◌then◌else◌, ℤ, pos, negsuc}
use Rattle.std.specs.List.{list_any}
use Rattle.std.specs.Int.RustNames.{int_le}
use Rattle.cjc_bytes.specs.declared.fault.MemberId.{MemberId}
use Rattle.cjc_script.specs.declared.value.Value.{Value}
use Rattle.cjc_script.specs.declared.value.Value.TheVariants.{Num, Null, Obj}
use Rattle.cjc_script.specs.Sorts.{Sort, Boolean, Byte, Short, Int, Reference, NoValue, field_sort}
use Rattle.cjc_card_semantics.specs.Bytecode.Effects.{Letter, slot_of, IsOperand}
use Rattle.cjc_card_semantics.specs.Bytecode.Renaming.{option_as}
use Rattle.cjc_card_semantics.specs.Bytecode.Effects as letters
use Rattle.cjc_card_semantics.specs.Machine.ByToken.{letter_of, shown_cell}
use Rattle.cjc_card_semantics.specs.Machine.Loaded.{CellName}
use Rattle.cjc_card_semantics.specs.Machine.Statics.{Image, StaticCell, get_static, number_bytes, put_static}
use Rattle.cjc_ncode.specs.ByLabel.{shown_slot}
use Rattle.cjc_ncode.specs.ByLabel.{put_static as put_by_name}
use Rattle.cjc_ncode.specs.PoolOrder.{same_member}
use Rattle.cjc_ncode.specs.Lowering.Agreement.{Cells}

-- ---- fields and their cells

-- the letter of the instructions that read and write a field of a type; no field is of no type
abbrev pub letter_by : Sort → Letter
letter_by Boolean = letters.Byte
letter_by Byte = letters.Byte
letter_by Short = letters.Short
letter_by Int = letters.Int
letter_by (Reference shape) = letters.Reference
letter_by NoValue = letters.Byte

-- the letter of a field
abbrev pub letter : MemberId → Letter
letter f = letter_by (field_sort f.desc)

-- how many bytes a cell has
abbrev pub width : Letter → ℕ
width letters.Reference = 2
width letters.Byte = 1
width letters.Short = 2
width letters.Int = 4

-- a cell of a number
abbrev pub is_number : Letter → Bool
is_number letters.Reference = false
is_number other = true

-- The static fields of a package in the order of their cells: references, and numbers behind them.
pub record Order : Type 0 where
  pub references : List MemberId
  pub numbers : List MemberId

-- all of them
abbrev pub fields : Order → List MemberId
fields o = o.references ++ o.numbers

-- among fields the first of whose cells stands at this offset
abbrev pub offset_from : (at : ℕ) → List MemberId → MemberId → ℕ
offset_from at [] f = at
offset_from at (g ∷ fields) f = if same_member g f then at else offset_from (at + width (letter g)) fields f

-- The offset of a field's cell in the image, in bytes.
abbrev pub cell_offset : Order → MemberId → ℕ
cell_offset o f = offset_from 0 (fields o) f

-- the field is one of these
abbrev pub is_one_of : MemberId → List MemberId → Bool
is_one_of f fields = list_any (λ g. same_member g f) fields

-- no field stands twice
abbrev pub are_apart : List MemberId → Bool
are_apart [] = true
are_apart (f ∷ fields) = not (is_one_of f fields) && are_apart fields

-- References stand among references and numbers among numbers, each field once.
pub record IsOrder (o : Order) : Type 0 where
  pub references : (f : MemberId) → is_one_of f o.references ≡ true → is_number (letter f) ≡ false
  pub numbers : (f : MemberId) → is_one_of f o.numbers ≡ true → is_number (letter f) ≡ true
  pub references_once : are_apart o.references ≡ true
  pub numbers_once : are_apart o.numbers ≡ true

-- The image has a cell for each of these fields, each of a type and once, and for no other.
pub record HasCells (o : Order) (all : List MemberId) : Type 0 where
  pub order : IsOrder o
  pub each : (f : MemberId) → is_one_of f all ≡ true → is_one_of f (fields o) ≡ true
  pub no_other : (f : MemberId) → is_one_of f (fields o) ≡ true → is_one_of f all ≡ true
  pub typed : (f : MemberId) → is_one_of f all ≡ true → letter_of (field_sort f.desc) ≡ Some (letter f)
  pub once : are_apart all ≡ true

-- ---- what cells hold

-- from the low number to the high one
abbrev pub lies_in : ℤ → ℤ → ℤ → Bool
lies_in low high z = int_le low z && int_le z high

-- a value that a cell of the letter holds as it is
abbrev pub fits : Letter → Value → Bool
fits letters.Reference Null = true
fits letters.Reference (Obj k) = true
fits letters.Byte (Num z) = lies_in (negsuc 127) (pos 127) z
fits letters.Short (Num z) = lies_in (negsuc 32767) (pos 32767) z
fits letters.Int (Num z) = lies_in (negsuc 2147483647) (pos 2147483647) z
fits letter value = false

-- The static cells by name are those of these fields in their order, each with a value that its cell can hold.
abbrev pub are_cells : List MemberId → Cells → Bool
are_cells [] [] = true
are_cells (f ∷ fields) (s ∷ cells) = same_member s.key f && (fits (letter f) s.value && are_cells fields cells)
are_cells fields cells = false

-- what is there, null without
abbrev pub value_in : Option Value → Value
value_in (Some v) = v
value_in None = Null

-- the value of a field by name
abbrev pub value_of : Cells → MemberId → Value
value_of cells f = value_in (slot_of same_member cells f)

-- the bytes of numbers, one behind the other
abbrev pub bytes_of : Cells → List MemberId → List ℕ
bytes_of cells [] = []
bytes_of cells (f ∷ fields) = number_bytes (letter f) (value_of cells f) ++ bytes_of cells fields

-- The image that holds what the static cells hold by name.
abbrev pub image_of : Order → Cells → Image
image_of o cells = record { references = map (value_of cells) o.references; bytes = bytes_of cells o.numbers }

-- ---- names of cells

-- the cell of a field, where the package is loaded first
abbrev pub cell_of : Order → MemberId → StaticCell
cell_of o f = record { part = 0; offset = cell_offset o f }

-- The names of cells, in the order of the report.
abbrev pub cell_names : Order → List MemberId → List CellName
cell_names o all = map (λ f. record { offset = cell_offset o f; id = f }) all

-- the same letter
abbrev pub same_letter : Letter → Letter → Bool
same_letter letters.Reference letters.Reference = true
same_letter letters.Byte letters.Byte = true
same_letter letters.Short letters.Short = true
same_letter letters.Int letters.Int = true
same_letter k other = false

-- An instruction of this letter may read and write the field's cell.
abbrev pub may_access : Order → Letter → MemberId → Bool
may_access o k f = is_one_of f (fields o) && same_letter (letter f) k

-- What instructions and reports ask of static cells is the same by name and in the image.
pub record CellsAgree (o : Order) (all : List MemberId) : Type 0 where
  pub get : (k : Letter) (f : MemberId) (cells : Cells) → may_access o k f ≡ true → are_cells all cells ≡ true
      → get_static k (cell_of o f) (image_of o cells ∷ []) ≡ slot_of same_member cells f
  pub put : (k : Letter) (f : MemberId) (v : Value) (cells : Cells) → IsOperand k v → may_access o k f ≡ true
      → are_cells all cells ≡ true → put_static k (cell_of o f) v (image_of o cells ∷ []) ≡ option_as (λ y. image_of o y
      ∷ []) (put_by_name cells f v)
  pub put_known : (k : Letter) (f : MemberId) (v : Value) (cells after : Cells) → IsOperand k v
      → may_access o k f ≡ true → are_cells all cells ≡ true → put_by_name cells f v ≡ Some after
      → are_cells all after ≡ true
  pub shown : (cells : Cells) → are_cells all cells ≡ true
      → map (shown_cell 0 (image_of o cells ∷ [])) (cell_names o all) ≡ map shown_slot cells
