-- The constant pool of a class file (Java Virtual Machine Specification, section 4.4).
use Rattle.std.specs.Prelude.{ℕ, zero, suc, Bool, true, false, List, [], ◌∷◌, Option, Some, None, option_map, nat_lt}
use Rattle.std.specs.Prelude.{◌==◌, if◌then◌else◌}
use Rattle.std.specs.Int.{w8, w32, cast_signed}
use Rattle.cjc_bytes.specs.Descriptor.{Parts}
use Rattle.cjc_bytes.specs.Spots.{desc_of}
use Rattle.cjc_bytes.specs.Format.{Format, number, here, gives, ◌>>=◌, u1, u2, u4, raw}
use Rattle.cjc_classfile.specs.declared.pool.Index.{Index}
use Rattle.cjc_classfile.specs.declared.pool.Tag.{Tag}
use Rattle.cjc_classfile.specs.declared.pool.Tag.TheVariants as tags
use Rattle.cjc_classfile.specs.Entry.{Entry, text, integer, float, wide, class, string, field, method, interface_method}
use Rattle.cjc_classfile.specs.Entry.{name_and_type, other}

-- The tags (Table 4.4-A). A Long or Double takes two indices, so one more has to stand behind its own.
abbrev pub tag_of : ℕ → ℕ → Option Tag
tag_of behind n =
    if n == 1 then Some tags.Utf8
    else if n == 3 then Some tags.Integer
    else if n == 4 then Some tags.Float
    else if n == 5 then (if nat_lt 0 behind then Some tags.Wide else None)
    else if n == 6 then (if nat_lt 0 behind then Some tags.Wide else None)
    else if n == 7 then Some tags.Class
    else if n == 8 then Some tags.String
    else if n == 9 then Some tags.Field
    else if n == 10 then Some tags.Method
    else if n == 11 then Some tags.InterfaceMethod
    else if n == 12 then Some tags.NameAndType
    else if n == 15 then Some tags.MethodHandle
    else if n == 16 then Some tags.MethodType
    else if n == 18 then Some tags.InvokeDynamic
    else None

-- whether the bytes are a descriptor, and if so, of a method
unfoldable pub desc_kind : List ℕ → Option Bool
desc_kind bytes = option_map (λ (d : Parts). d.is_method) (desc_of bytes)

-- an index into the pool, which is tested later
unfoldable pub index : Format Index
index = do
  at ← here (λ k. k)
  to ← u2
  gives (record { at = at; to = to })

-- two indices
unfoldable pub pair : Format (Index × Index)
pair = do
  first ← index
  second ← index
  gives (first, second)

-- a length and so many bytes
unfoldable pub utf8 : Format Entry
utf8 = do
  n ← u2
  bytes ← raw n
  gives (text bytes (desc_kind bytes))

-- what stands behind a tag
unfoldable pub content : Tag → Format Entry
content tags.Utf8 = utf8
content tags.Integer = do
  n ← u4
  gives (integer (cast_signed w32 n))
content tags.Float = do
  free ← u4
  gives float
content tags.Wide = do
  free ← raw 8
  gives wide
content tags.Class = do
  name ← index
  gives (class name)
content tags.String = do
  value ← index
  gives (string value)
content tags.Field = do
  p ← pair
  gives (field p.0 p.1)
content tags.Method = do
  p ← pair
  gives (method p.0 p.1)
content tags.InterfaceMethod = do
  p ← pair
  gives (interface_method p.0 p.1)
content tags.NameAndType = do
  p ← pair
  gives (name_and_type p.0 p.1)
content tags.MethodHandle = do
  free ← u1
  free_index ← u2
  gives other
content tags.MethodType = do
  free_index ← u2
  gives other
content tags.InvokeDynamic = do
  free ← u2
  free_index ← u2
  gives other

-- the entry of an index with so many indices behind it; behind a wide entry it has no bytes
unfoldable pub entry : Bool → ℕ → Format Entry
entry true behind = gives other
entry false behind = number w8 (tag_of behind) >>= content

-- whether it is a CONSTANT_Long or CONSTANT_Double, which takes two indices
abbrev pub is_wide : Entry → Bool
is_wide wide = true
is_wide _ = false

-- the entries of so many indices
unfoldable pub entries : ℕ → Bool → Format (List Entry)
entries zero after_wide = gives []
entries (suc n) after_wide = do
  first ← entry after_wide n
  rest ← entries n (is_wide first)
  gives (first ∷ rest)

-- the pool of so many indices behind index 0, which has no entry
unfoldable pub pool_of : ℕ → Format (List Entry)
pool_of n = do
  behind ← entries n false
  gives (other ∷ behind)
