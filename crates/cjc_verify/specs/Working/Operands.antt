-- Operands of an instruction as code looks at them.
use Rattle.std.specs.Prelude.{ℕ, List, [], ◌∷◌, Bool, true, false, Option, Some, None, ℤ, pos, negsuc}
use Rattle.cjc_card_acts.specs.CardFrame.declared.opcodes.kinds.Use.{Use}
use Rattle.cjc_card_acts.specs.CardFrame.declared.opcodes.kinds.Use.TheVariants as uses

-- a number from 0 on
abbrev pub natural : ℤ → Option ℕ
natural (pos n) = Some n
natural (negsuc n) = None

-- the first of several, where it is a number from 0 on
abbrev pub natural_of : List ℤ → Option ℕ
natural_of [] = None
natural_of (value ∷ values) = natural value

-- the local of a number, or of the operand
abbrev pub local_by : Option ℕ → List ℤ → Option ℕ
local_by (Some k) values = Some k
local_by None values = natural_of values

-- an entry that is used so is to name a field
abbrev pub is_of_field : Use → Bool
is_of_field (uses.Get this letter) = true
is_of_field (uses.Put this letter) = true
is_of_field (uses.GetStatic letter) = true
is_of_field (uses.PutStatic letter) = true
is_of_field (uses.Call mode) = false
is_of_field uses.New = false
is_of_field uses.NewReferences = false

-- an entry that is used so is to name a method
abbrev pub is_of_call : Use → Bool
is_of_call (uses.Get this letter) = false
is_of_call (uses.Put this letter) = false
is_of_call (uses.GetStatic letter) = false
is_of_call (uses.PutStatic letter) = false
is_of_call (uses.Call mode) = true
is_of_call uses.New = false
is_of_call uses.NewReferences = false
