-- The constant pool of an export file (Java Card Virtual Machine Specification 2.2.2, section 5.6).
use Rattle.std.specs.Prelude.{ℕ, Bool, List, Option, Some, None, Result, Ok, nat_le, ◌==◌, ◌&&◌, if◌then◌else◌}
use Rattle.std.specs.Prelude.{option_and_then, slice_get}
use Rattle.std.specs.Int.{w8, w32, cast_signed}
use Rattle.cjc_bytes.specs.Format.{Format, number, here, gives, ◌>>=◌, u1, u2, u4, raw}
use Rattle.cjc_bytes.specs.Found.{◌>>=◌ as ◌>>>◌, kept}
use Rattle.cjc_export.specs.declared.pool.Index.{Index}
use Rattle.cjc_export.specs.declared.pool.Tag.{Tag}
use Rattle.cjc_export.specs.declared.pool.Tag.TheVariants as tags
use Rattle.cjc_bytes.specs.AccessFlags.{has}
use Rattle.cjc_export.specs.Entry.{Entry, text, integer, class, package_info}

-- the tags that there are: CONSTANT_Utf8, CONSTANT_Integer, CONSTANT_Classref and CONSTANT_Package
abbrev pub tag_of : ℕ → Option Tag
tag_of n =
    if n == 1 then Some tags.Utf8
    else if n == 3 then Some tags.Integer
    else if n == 7 then Some tags.Class
    else if n == 13 then Some tags.Package
    else None

-- an index into the pool, which is tested later
unfoldable pub index : Format Index
index = do
  at ← here (λ k. k)
  to ← u2
  gives (record { at = at; to = to })

-- the length of an AID: from 5 to 16
abbrev pub aid_length : ℕ → Option ℕ
aid_length n = if nat_le 5 n && nat_le n 16 then Some n else None

-- of a package's flags the lowest alone is read
abbrev pub is_library : ℕ → Bool
is_library flags = has flags 1

-- a length and so many bytes
unfoldable pub counted : Format (List ℕ)
counted = do
  n ← u2
  raw n

-- what stands behind a tag
unfoldable pub content : Tag → Format Entry
content tags.Utf8 = do
  bytes ← counted
  gives (text bytes)
content tags.Integer = do
  n ← u4
  gives (integer (cast_signed w32 n))
content tags.Class = do
  name ← index
  gives (class name)
content tags.Package = do
  flags ← u1
  name ← index
  minor ← u1
  major ← u1
  n ← number w8 aid_length
  aid ← raw n
  gives (package_info (is_library flags) name minor major aid)

-- an entry of the pool: its tag and what stands behind it
unfoldable pub entry : Format Entry
entry = number w8 tag_of >>= content

-- ---- what the entries mean

-- the bytes of a CONSTANT_Utf8
abbrev pub as_text : Entry → Option (List ℕ)
as_text (text bytes) = Some bytes
as_text _ = None

-- the text at an index, where there is one
unfoldable pub text_at : List Entry → ℕ → Option (List ℕ)
text_at pool i = option_and_then as_text (slice_get pool i)

-- the index of an entry's name, tested after the last entry
unfoldable pub tested_name : List Entry → Index → Result Unit ℕ
tested_name pool name = kept name.at (text_at pool name.to) >>> λ n. Ok tt

-- the name of a class or package is a text of the pool; else the place of the name's index
unfoldable pub tested : List Entry → Entry → Result Unit ℕ
tested pool (class name) = tested_name pool name
tested pool (package_info library name minor major aid) = tested_name pool name
tested pool _ = Ok tt

-- the index of the name of a CONSTANT_Classref
abbrev pub as_class : Entry → Option Index
as_class (class name) = Some name
as_class _ = None

-- the name of the class at an index
unfoldable pub class_name_at : List Entry → ℕ → Option (List ℕ)
class_name_at pool i = option_and_then (λ name. text_at pool name.to) (option_and_then as_class (slice_get pool i))
