-- What an operation of two numbers gives, as data.
use Rattle.std.specs.Prelude.{ℤ, if◌then◌else◌}
use Rattle.cjc_jvm_semantics.specs.LowerRange.Words.{wide}
use Rattle.cjc_jvm_semantics.specs.Arithmetic.{Operation, Gives, Divides, Neither, is_zero}
use Rattle.cjc_jvm_step.specs.declared.frame.calculation.Calculation.{Calculation}
use Rattle.cjc_jvm_step.specs.declared.frame.calculation.Calculation.TheVariants.{Number, ByZero, Nothing}

-- a result of 32 bits, or none by 0
abbrev pub calculation : Operation → ℤ → ℤ → Calculation
calculation (Gives exact) x y = Number (wide (exact x y))
calculation (Divides exact) x y = if is_zero y then ByZero else Number (wide (exact x y))
calculation Neither x y = Nothing
