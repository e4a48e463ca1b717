-- What the code puts into static cells.
use Rattle.std.specs.Prelude.{ℤ, FitsSigned}
use Rattle.std.specs.Int.{w8, w16}
use Rattle.cjc_card_semantics.specs.Script.declared.value.Value.{Value}
use Rattle.cjc_card_semantics.specs.Script.declared.value.Value.TheVariants.{Num}
use Rattle.cjc_card_semantics.specs.Bytecode.Effects.{Letter, Byte, Short}

-- a number that is put by a letter fits its bytes
abbrev pub Fits : Letter → Value → Type 0
Fits Byte (Num z) = FitsSigned w8 z
Fits Short (Num z) = FitsSigned w16 z
Fits letter value = Unit {0}
