-- A type descriptor gone through nibble by nibble, and where a class in it breaks a sentence.
use Rattle.std.specs.Prelude.{ℕ, ◌+◌, ◌*◌, List, Bool, ◌==◌, ◌||◌, not, if◌then◌else◌, get_or}
use Rattle.cjc_capread.specs.declared.tree.ClassRef.{ClassRef}
use Rattle.cjc_capread.specs.Parts.{class_of}
use Rattle.cjc_check_rules.specs.declared.spot.ComponentPlace.{ComponentPlace}
use Rattle.cjc_check_rules.specs.Spots.{in_info, unless}

-- the nibbles of a class follow
abbrev pub names_class : (nibble : ℕ) → Bool
names_class nibble = nibble == 0x6 || nibble == 0xE

-- the nibbles of the part that begins with this one
abbrev pub nibble_width : (nibble : ℕ) → ℕ
nibble_width nibble = if names_class nibble then 5 else 1

-- the class of which the nibbles at the front are, with its place
abbrev pub in_front : (test : ClassRef → Bool) → (at : ℕ) → List ℕ → List ComponentPlace
in_front test at nibbles =
    unless (not (names_class (get_or nibbles 0 0))
    || test (class_of (4096 * get_or nibbles 1 0 + 256 * get_or nibbles 2 0 + 16 * get_or nibbles 3 0 + get_or
    nibbles 4 0))) (in_info 11 at)
