-- What several components share: fixed values, lists with a count, and references to classes and static members.
use Rattle.std.specs.Prelude.{ℕ, ◌-◌, ◌/◌, ◌%◌, List, Option, Some, None, nat_lt, ◌==◌, if◌then◌else◌}
use Rattle.std.specs.Int.{w8, w16}
use Rattle.cjc_bytes.specs.Format.{Format, number, here, gives, ◌>>=◌, repeated, u1, u2, raw}
use Rattle.cjc_capread.specs.declared.tree.ClassRef.{ClassRef}
use Rattle.cjc_capread.specs.declared.tree.ClassRef.TheVariants as class_refs
use Rattle.cjc_capread.specs.declared.tree.StaticRef.{StaticRef}
use Rattle.cjc_capread.specs.declared.tree.StaticRef.TheVariants as static_refs

-- a number whose value is fixed
abbrev pub exactly : ℕ → ℕ → Option ℕ
exactly m n = if n == m then Some n else None

-- bytes behind their number, which has one byte or two
unfoldable pub bytes1 : Format (List ℕ)
bytes1 = do
  n ← u1
  raw n

-- bytes behind their number, which has two bytes
unfoldable pub bytes2 : Format (List ℕ)
bytes2 = do
  n ← u2
  raw n

-- items of one byte behind their number, read one by one: of a cut list the first item that is missing breaks
unfoldable pub items1 : Format (List ℕ)
items1 = do
  n ← u1
  repeated n u1

-- the bytes up to this place
unfoldable pub bytes_before : ℕ → Format (List ℕ)
bytes_before end = do
  at ← here (λ k. k)
  raw (end - at)

-- below 0x8000 a place in Class; above it 0x80 and the token of a package, then the token of a class (section 6.1)
abbrev pub class_of : ℕ → ClassRef
class_of n = if nat_lt n 0x8000 then class_refs.Inside n else class_refs.Outside (n / 256 - 0x80) (n % 256)

-- a reference to a class
unfoldable pub class_ref : Format ClassRef
class_ref = number w16 (λ n. Some (class_of n))

-- the first of three bytes: 0 for this package, 0x80 and its token for an imported one (section 6.7.3)
abbrev pub package_of : ℕ → Option (Option ℕ)
package_of n = if n == 0 then Some None else if nat_lt n 0x80 then None else Some (Some (n - 0x80))

-- what stands behind the first byte of a reference to a static member
unfoldable pub static_rest : Option ℕ → Format StaticRef
static_rest None = do
  offset ← u2
  gives (static_refs.Inside offset)
static_rest (Some imported) = do
  class ← u1
  token ← u1
  gives (static_refs.Outside imported class token)

-- a reference to a static member
unfoldable pub static_ref : Format StaticRef
static_ref = number w8 package_of >>= static_rest
