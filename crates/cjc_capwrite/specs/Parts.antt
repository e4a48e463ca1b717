-- The bytes of what several components share.
use Rattle.std.specs.Prelude.{ℕ, ◌+◌, ◌%◌, ◌^◌, List, [], ◌∷◌, ◌++◌, length}
use Rattle.std.specs.Int.{w16, to_be_bytes}
use Rattle.cjc_capread.specs.declared.tree.ClassRef.{ClassRef}
use Rattle.cjc_capread.specs.declared.tree.ClassRef.TheVariants as class_refs
use Rattle.cjc_capread.specs.declared.tree.StaticRef.{StaticRef}
use Rattle.cjc_capread.specs.declared.tree.StaticRef.TheVariants as static_refs

-- the low byte of a number, and its low two bytes
abbrev pub one : ℕ → List ℕ
one n = n % 2 ^ 8 ∷ []

-- the low two bytes of a number, the high one first
abbrev pub two : ℕ → List ℕ
two n = to_be_bytes w16 (n % 2 ^ 16)

-- bytes behind their number
abbrev pub bytes1 : List ℕ → List ℕ
bytes1 bytes = one (length bytes) ++ bytes

-- bytes behind their number in two bytes
abbrev pub bytes2 : List ℕ → List ℕ
bytes2 bytes = two (length bytes) ++ bytes

-- a reference to a class: an offset, or 0x80 with a package token and a class token (section 6.1)
abbrev pub class_bytes : ClassRef → List ℕ
class_bytes (class_refs.Inside offset) = two offset
class_bytes (class_refs.Outside imported class) = one (0x80 + imported) ++ class ∷ []

-- a reference to a static member: 0 and an offset, or 0x80 with a package token, a class token and its own (section
-- 6.7.3)
abbrev pub static_bytes : StaticRef → List ℕ
static_bytes (static_refs.Inside offset) = 0 ∷ [] ++ two offset
static_bytes (static_refs.Outside imported class token) = one (0x80 + imported) ++ (class ∷ [] ++ token ∷ [])
