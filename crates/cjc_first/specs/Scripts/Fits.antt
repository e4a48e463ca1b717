-- When the values of a script fit the types that they are given for.
use Rattle.std.specs.Prelude.{ℕ, List, [], ◌∷◌, Option, Some, None, Bool, true, false, ◌&&◌, slice_get, ℤ, pos, negsuc}
use Rattle.std.specs.Int.RustNames.{int_le}
use Rattle.cjc_script.specs.declared.value.Value.{Value}
use Rattle.cjc_script.specs.declared.value.Value.TheVariants.{Num, Null, Obj}
use Rattle.cjc_script.specs.declared.report.Thing.{Thing}
use Rattle.cjc_script.specs.declared.report.Thing.TheVariants.{Array, Object}
use Rattle.cjc_first.specs.Scripts.Types.{Sort, Boolean, Byte, Short, Int, Reference}

abbrev pub lies_in : ℤ → ℤ → ℤ → Bool
lies_in low high z = int_le low z && int_le z high

-- the class of an object, the descriptor of an array
abbrev pub type_of : Thing → List ℕ
type_of (Array desc items) = desc
type_of (Object class fields) = class

abbrev pub is_there_of : (subtype : List ℕ → List ℕ → Bool) → List ℕ → Option Thing → Bool
is_there_of subtype name None = false
is_there_of subtype name (Some thing) = subtype (type_of thing) name

-- a value of the type: a number in its range, null, or an object of the class
abbrev pub fits : (subtype : List ℕ → List ℕ → Bool) → List Thing → Sort → Value → Bool
fits subtype heap Boolean (Num z) = lies_in (pos 0) (pos 1) z
fits subtype heap Byte (Num z) = lies_in (negsuc 127) (pos 127) z
fits subtype heap Short (Num z) = lies_in (negsuc 32767) (pos 32767) z
fits subtype heap Int (Num z) = lies_in (negsuc 2147483647) (pos 2147483647) z
fits subtype heap (Reference name) Null = true
fits subtype heap (Reference name) (Obj k) = is_there_of subtype name (slice_get heap k)
fits subtype heap kind value = false

-- as many values as types, each of its own
abbrev pub all_fit : (subtype : List ℕ → List ℕ → Bool) → List Thing → List Sort → List Value → Bool
all_fit subtype heap [] [] = true
all_fit subtype heap (kind ∷ kinds) (value ∷ values) = fits subtype heap kind value && all_fit subtype heap kinds values
all_fit subtype heap kinds values = false

-- a value where the type has one, and none otherwise
abbrev pub result_fits : (subtype : List ℕ → List ℕ → Bool) → List Thing → Option Sort → Option Value → Bool
result_fits subtype heap None None = true
result_fits subtype heap (Some kind) (Some value) = fits subtype heap kind value
result_fits subtype heap kind value = false
