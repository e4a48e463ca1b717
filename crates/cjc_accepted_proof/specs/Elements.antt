-- What the card's types of arrays say of the arrays that they stand for.
use Rattle.cjc_types.specs.Types.{held as held_by_name}
use Rattle.std.specs.Prelude.{◌≡◌, ℕ, ◌==◌, ◌||◌, Bool, true, false, List, Option, Some, if◌then◌else◌}
use Rattle.cjc_types.specs.Bytecode.Jvm as jvm
use Rattle.cjc_types.specs.Rules.{is_array_for}
use Rattle.cjc_types.specs.World.Subtype.{starts}
use Rattle.cjc_verify.specs.CardActs.CardTypes.{all_arrays, arrays_of}
use Rattle.cjc_verify.specs.CardSemantics.Bytecode.Effects.{Letter, Byte, Int, Reference, Short}
use Rattle.cjc_frames.specs.Types.{begins_with, held}

-- the letter of the card's load or store for that of the class file, of int none
abbrev pub letter_for : (opcode : ℕ) → Letter
letter_for opcode =
    if (opcode == jvm.aaload) || (opcode == jvm.aastore) then Reference
    else if (opcode == jvm.baload) || (opcode == jvm.bastore) then Byte
    else Short

-- iaload and iastore
abbrev pub works_on_int : (opcode : ℕ) → Bool
works_on_int opcode = (opcode == jvm.iaload) || (opcode == jvm.iastore)

-- an array of references holds what the array by name holds
pub record IsHeld (card_type : List ℕ → Option (List ℕ)) (name element : List ℕ) : Type 0 where
  pub inner : List ℕ
  pub holds : held_by_name name ≡ Some inner
  pub typed : card_type inner ≡ Some element

-- The types of arrays begin with the nibbles of arrays, those that a load or store by name serves with one of its
-- letter, of int too, and those of references hold what the arrays by name hold.
pub record ArraysAgree (card_type : List ℕ → Option (List ℕ)) : Type 0 where
  pub arrays : (name type : List ℕ) → card_type name ≡ Some type → starts 91 name ≡ true
      → begins_with all_arrays type ≡ true
  pub served : (opcode : ℕ) (name type : List ℕ) → card_type name ≡ Some type → works_on_int opcode ≡ false
      → is_array_for opcode name ≡ true
      → begins_with (arrays_of (letter_for opcode)) type ≡ true
  pub ints : (opcode : ℕ) (name type : List ℕ) → card_type name ≡ Some type → works_on_int opcode ≡ true
      → is_array_for opcode name ≡ true → begins_with (arrays_of Int) type ≡ true
  pub inside : (name type element : List ℕ) → card_type name ≡ Some type → held type ≡ Some element
      → IsHeld card_type name element
