-- The static fields that have a cell, and what may be put into one.
use Rattle.std.specs.Prelude.{ℕ, List, Bool, true, false, not, ◌&&◌, ◌||◌, ◌==◌, if◌then◌else◌, [], ◌∷◌, Option, Some}
use Rattle.std.specs.Prelude.{None, is_some, ℤ, pos, negsuc, codes}
use Rattle.std.specs.Int.RustNames.{int_le}
use Rattle.std.specs.Str.{bytes_eq}
use Rattle.cjc_bytes.specs.declared.descriptor.Kind.{Kind}
use Rattle.cjc_bytes.specs.declared.descriptor.Kind.TheVariants as kinds
use Rattle.cjc_bytes.specs.AccessFlags.{is_static}
use Rattle.cjc_subset.specs.LowerClassFile.declared.tree.FieldTree.{FieldTree}
use Rattle.cjc_subset.specs.LowerExportFile.Members.{may_be_constant}
use Rattle.cjc_clinit.specs.declared.stage.Held.{Held}
use Rattle.cjc_clinit.specs.declared.stage.Held.TheVariants as held

-- a static field that is no constant
abbrev pub is_cell : FieldTree → Bool
is_cell f = is_static f.flags && not (may_be_constant f.flags f.desc && is_some f.constant)

-- ---- types

-- the kind of a type of numbers
abbrev pub number_kind : List ℕ → Option Kind
number_kind desc =
    if bytes_eq desc (codes "Z") then Some kinds.Bool
    else if bytes_eq desc (codes "B") then Some kinds.Byte
    else if bytes_eq desc (codes "S") then Some kinds.Short
    else if bytes_eq desc (codes "I") then Some kinds.Int
    else None

-- the type of an array of numbers of a kind
abbrev pub array_desc : Kind → List ℕ
array_desc kinds.Bool = codes "[Z"
array_desc kinds.Byte = codes "[B"
array_desc kinds.Short = codes "[S"
array_desc kinds.Int = codes "[I"
array_desc _ = []

-- a class (76) or an array (91)
abbrev pub is_reference : List ℕ → Bool
is_reference [] = false
is_reference (b ∷ bs) = (b == 76) || (b == 91)

-- from the low number to the high one
abbrev pub lies_in : ℤ → ℤ → ℤ → Bool
lies_in low high z = int_le low z && int_le z high

-- the numbers of a kind
abbrev pub fits : Kind → ℤ → Bool
fits kinds.Bool z = lies_in (pos 0) (pos 1) z
fits kinds.Byte z = lies_in (negsuc 127) (pos 127) z
fits kinds.Short z = lies_in (negsuc 32767) (pos 32767) z
fits kinds.Int z = lies_in (negsuc 2147483647) (pos 2147483647) z
fits _ z = false

-- of the type of a field, where it is one of numbers
abbrev pub fits_kind : Option Kind → ℤ → Bool
fits_kind None z = false
fits_kind (Some kind) z = fits kind z

-- ---- what is put

-- a number, null, or an array by the kind and the values of its items
pub data Contents : Type 0 where
  ANumber : (value : ℤ) → Contents
  ANull : Contents
  AnArray : (kind : Kind) → (items : List ℤ) → Contents

-- a field of this type takes it: a number of its range, null, or an array of its own type
abbrev pub takes : Contents → (desc : List ℕ) → Bool
takes (ANumber z) desc = fits_kind (number_kind desc) z
takes ANull desc = is_reference desc
takes (AnArray kind items) desc = bytes_eq desc (array_desc kind)

-- what the field holds then
abbrev pub held_by : Contents → Held
held_by (ANumber z) = held.Number z
held_by ANull = held.Null
held_by (AnArray kind items) = held.Array

-- ---- ConstantValue

-- the value of a static field fits its type
abbrev pub value_fits : Option Kind → Option ℤ → Bool
value_fits None value = true
value_fits (Some kind) None = true
value_fits (Some kind) (Some z) = fits kind z

-- the ConstantValue of a static field, final or not, does not fit its type
abbrev pub has_unfit_value : FieldTree → Bool
has_unfit_value f = is_static f.flags && not (value_fits (number_kind f.desc) f.constant)
