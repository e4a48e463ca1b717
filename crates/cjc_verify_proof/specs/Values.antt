-- Values of the types that Descriptor writes, where objects are of card types in any way.
use Rattle.std.specs.Prelude.{◌≡◌, ℕ, Bool, true, List, [], ◌∷◌, Option, Some, None}
use Rattle.cjc_script.specs.declared.value.Value.{Value}
use Rattle.cjc_script.specs.declared.value.Value.TheVariants.{Num, Null, Obj}
use Rattle.cjc_card_semantics.specs.Bytecode.Numbers.{is_word}
use Rattle.cjc_card_acts.specs.CardTypes.{ValueType, Void, Boolean, Byte, Short, Int, Reference}
use Rattle.cjc_verify_proof.specs.Words.{IsNumber, IsReference}

-- a number of 16 bits
abbrev pub IsShort : Value → Type 0
IsShort (Num z) = is_word z ≡ true
IsShort Null = ⊥
IsShort (Obj k) = ⊥

-- by whether the object of a number is of a type
module _ (is : (type : List ℕ) → (object : ℕ) → Bool) where
  -- a value is of a type; none is of no type
  abbrev pub IsValue : ValueType → Value → Type 0
  IsValue Void v = ⊥
  IsValue Boolean v = IsShort v
  IsValue Byte v = IsShort v
  IsValue Short v = IsShort v
  IsValue Int v = IsNumber is v
  IsValue (Reference type) v = IsReference is (type ∷ []) v

  -- a value of a type is there
  abbrev pub Holds : ValueType → Option Value → Type 0
  Holds type None = ⊥
  Holds type (Some v) = IsValue type v
