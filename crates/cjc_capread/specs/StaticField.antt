-- The static field image (section 6.10).
use Rattle.std.specs.Prelude.{ℕ, Option, Some, None, nat_le, ◌&&◌, if◌then◌else◌}
use Rattle.std.specs.Int.{w8}
use Rattle.cjc_bytes.specs.Format.{Format, number, gives, ◌>>=◌, repeated, u2}
use Rattle.cjc_capread.specs.declared.tree.StaticField.{StaticField}
use Rattle.cjc_capread.specs.declared.tree.ArrayInit.{ArrayInit}
use Rattle.cjc_capread.specs.Parts.{bytes2}

-- boolean 2, byte 3, short 4, int 5
abbrev pub element_type : ℕ → Option ℕ
element_type n = if nat_le 2 n && nat_le n 5 then Some n else None

-- an array: the type of an element, and the bytes of all
unfoldable pub array_init : Format ArrayInit
array_init = do
  type ← number w8 element_type
  values ← bytes2
  gives (record { type_ = type; values = values })

-- sizes and counts, the arrays, and the primitives that are not 0
unfoldable pub static_field : Format StaticField
static_field = do
  image_size ← u2
  reference_count ← u2
  count ← u2
  array_inits ← repeated count array_init
  default_value_count ← u2
  values ← bytes2
  gives (record {
    image_size = image_size;
    reference_count = reference_count;
    array_inits = array_inits;
    default_value_count = default_value_count;
    values = values;
  })
