-- Numbers of 32 bits with a sign: what arithmetic gives and what conditions hold (Java Virtual Machine Specification,
-- 6.5).
use Rattle.std.specs.Prelude.{ℕ, zero, suc, ◌^◌, ◌-◌, ◌==◌, ◌&&◌, nat_le, if◌then◌else◌, Bool, true, false, not, ℤ, pos}
use Rattle.std.specs.Prelude.{negsuc, neg_ℤ, ◌+ℤ◌, ◌-ℤ◌, ◌*ℤ◌}
use Rattle.std.specs.Int.{w32, int_shr, int_bit_and, int_bit_or, int_bit_xor}
use Rattle.std.specs.Int.RustNames.{int_div, int_rem, int_lt, int_le}
use Rattle.cjc_code.specs.Range.Words.{wide, shift_distance, unsigned_shift}
use Rattle.cjc_code.specs.Jvm as jvm

-- 0
abbrev pub is_zero : ℤ → Bool
is_zero (pos zero) = true
is_zero (pos (suc n)) = false
is_zero (negsuc n) = false

-- two numbers are the same
abbrev pub is_same : ℤ → ℤ → Bool
is_same x y = int_le x y && int_le y x

-- what an instruction of two operands does: a result that is cut to 32 bits, one that 0 as the second operand has none
-- of, or nothing
pub data Operation : Type 0 where
  Gives : (exact : ℤ → ℤ → ℤ) → Operation
  Divides : (exact : ℤ → ℤ → ℤ) → Operation
  Neither : Operation

-- iadd, isub, imul, idiv, irem, ishl, ishr, iushr, iand, ior, ixor; division is towards zero, a remainder has the sign
-- of the dividend, and shifts go by the low five bits of their distance
abbrev pub operation : ℕ → Operation
operation op =
    if op == jvm.iadd then Gives (λ x y. x +ℤ y)
    else if op == jvm.isub then Gives (λ x y. x -ℤ y)
    else if op == jvm.imul then Gives (λ x y. x *ℤ y)
    else if op == jvm.idiv then Divides int_div
    else if op == jvm.irem then Divides int_rem
    else if op == jvm.ishl then Gives (λ x d. x *ℤ pos (2 ^ shift_distance d))
    else if op == jvm.ishr then Gives (λ x d. int_shr x (shift_distance d))
    else if op == jvm.iushr then Gives (λ x d. unsigned_shift x (shift_distance d))
    else if op == jvm.iand then Gives (int_bit_and w32)
    else if op == jvm.ior then Gives (int_bit_or w32)
    else if op == jvm.ixor then Gives (int_bit_xor w32)
    else Neither

-- ineg
abbrev pub negation : ℤ → ℤ
negation x = wide (neg_ℤ x)

-- eq, ne, lt, ge, gt, le: the order of ifeq to ifle and of if_icmpeq to if_icmple
abbrev pub relation : ℕ → ℤ → ℤ → Bool
relation k x y =
    if k == 0 then is_same x y
    else if k == 1 then not (is_same x y)
    else if k == 2 then int_lt x y
    else if k == 3 then int_le y x
    else if k == 4 then int_lt y x
    else int_le x y

-- what a conditional jump asks: ifeq to ifle, if_icmpeq to if_icmple, if_acmpeq, if_acmpne, ifnull, ifnonnull, or
-- nothing
pub data Condition : Type 0 where
  OfNumber : (holds : ℤ → Bool) → Condition
  OfNumbers : (holds : ℤ → ℤ → Bool) → Condition
  AreSame : (wanted : Bool) → Condition
  IsNull : (wanted : Bool) → Condition
  Nothing : Condition

-- by the opcode
abbrev pub condition : ℕ → Condition
condition op =
    if nat_le jvm.ifeq op && nat_le op jvm.ifle then OfNumber (λ x. relation (op - jvm.ifeq) x (pos 0))
    else if nat_le jvm.if_icmpeq op && nat_le op jvm.if_icmple then OfNumbers (relation (op - jvm.if_icmpeq))
    else if op == jvm.if_acmpeq then AreSame true
    else if op == jvm.if_acmpne then AreSame false
    else if op == jvm.ifnull then IsNull true
    else if op == jvm.ifnonnull then IsNull false
    else Nothing
