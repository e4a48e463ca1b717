-- StaticField: the static fields of a package and what they hold at first (Java Card Virtual Machine Specification
-- 2.2.2, section 6.10).
use Rattle.std.specs.Prelude.{ℕ, ◌+◌, ◌*◌, List, [], ◌∷◌, ◌++◌, map, length, flat_map, sum_by, if◌then◌else◌, ℤ}
use Rattle.cjc_list.specs.Bytes.declared.fault.MemberId.{MemberId}
use Rattle.cjc_list.specs.Bytes.declared.descriptor.Kind.{Kind}
use Rattle.cjc_list.specs.Bytes.declared.descriptor.Kind.TheVariants as kinds
use Rattle.cjc_capwrite.specs.CapRead.declared.tree.ArrayInit.{ArrayInit}
use Rattle.cjc_capwrite.specs.CapRead.declared.tree.StaticField.{StaticField}
use Rattle.cjc_emit.specs.Script.declared.value.Value.TheVariants.{Num}
use Rattle.cjc_emit.specs.Script.Sorts.{Sort, Boolean, Byte, Short, Int, Reference, NoValue, field_sort}
use Rattle.cjc_emit.specs.CardSemantics.Bytecode.Effects.{Letter}
use Rattle.cjc_emit.specs.CardSemantics.Bytecode.Effects
use Rattle.cjc_emit.specs.CardSemantics.Machine.Statics.{number_bytes}
use Rattle.cjc_clinit.specs.World.declared.image.ArrayCell.{ArrayCell}
use Rattle.cjc_clinit.specs.World.declared.image.ValueCell.{ValueCell}
use Rattle.cjc_clinit.specs.World.declared.image.StaticImage.{StaticImage}
use Rattle.cjc_emit.specs.NCode.PoolOrder.{same_member}

-- ---- cells

-- how many bytes a cell of a type has
abbrev pub cell_size : Sort → ℕ
cell_size Boolean = 1
cell_size Byte = 1
cell_size Short = 2
cell_size Int = 4
cell_size (Reference shape) = 2
cell_size NoValue = 0

-- of a field
abbrev pub size_of_field : MemberId → ℕ
size_of_field f = cell_size (field_sort f.desc)

-- the fields in the order of their cells: those of arrays, null, 0, and other numbers
abbrev pub cell_order : StaticImage → List MemberId
cell_order image = map (λ a. a.field) image.arrays ++ (image.nulls ++ (image.zeros ++ map (λ v. v.field) image.others))

-- among fields the first of whose cells stands at this offset
abbrev pub offset_from : (at : ℕ) → List MemberId → MemberId → ℕ
offset_from at [] f = at
offset_from at (g ∷ fields) f = if same_member g f then at else offset_from (at + size_of_field g) fields f

-- the offset of the cell of a static field
abbrev pub cell_offset : StaticImage → MemberId → ℕ
cell_offset image f = offset_from 0 (cell_order image) f

-- ---- values

-- a number of a kind: one byte of a boolean or byte, two of a short, four of an int
abbrev pub letter_of : Kind → Letter
letter_of kinds.Short = Effects.Short
letter_of kinds.Int = Effects.Int
letter_of _ = Effects.Byte

-- the bytes of an element
abbrev pub element_bytes : Kind → ℤ → List ℕ
element_bytes kind z = number_bytes (letter_of kind) (Num z)

-- the number of an element type: boolean 2, byte 3, short 4, int 5
abbrev pub type_number : Kind → ℕ
type_number kinds.Bool = 2
type_number kinds.Short = 4
type_number kinds.Int = 5
type_number _ = 3

-- an array
abbrev pub array_init : ArrayCell → ArrayInit
array_init a = record { type_ = type_number a.kind; values = flat_map (element_bytes a.kind) a.items }

-- the bytes of a number of a type
abbrev pub value_by : Sort → ℤ → List ℕ
value_by Short z = element_bytes kinds.Short z
value_by Int z = element_bytes kinds.Int z
value_by _ z = element_bytes kinds.Byte z

-- the bytes of a field's number
abbrev pub value_bytes : ValueCell → List ℕ
value_bytes v = let f = v.field in value_by (field_sort f.desc) v.value

-- ---- the component

-- the cells of references, arrays counted
abbrev pub reference_count : StaticImage → ℕ
reference_count image = length image.arrays + length image.nulls

-- the bytes of the numbers that are 0
abbrev pub default_size : StaticImage → ℕ
default_size image = sum_by size_of_field image.zeros

-- the bytes of the other numbers
abbrev pub other_values : StaticImage → List ℕ
other_values image = flat_map value_bytes image.others

-- StaticField: references first, of two bytes each, of which the arrays stand before null, then the numbers that are 0,
-- then the others.
abbrev pub static_field : StaticImage → StaticField
static_field image = record {
  image_size = 2 * reference_count image + default_size image + length (other_values image);
  reference_count = reference_count image;
  array_inits = map array_init image.arrays;
  default_value_count = default_size image;
  values = other_values image;
}
