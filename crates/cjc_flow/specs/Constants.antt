-- The constants of fields that instructions get: of types whose values are numbers, and which instruction gets which.
use Rattle.std.specs.Prelude.{◌≡◌, true, List, map, Option, Some, None, ℤ}
use Rattle.cjc_fixpoint.specs.Bytes.declared.fault.MemberId.{MemberId}
use Rattle.cjc_types.specs.Bytecode.declared.insn.JInsn.{JInsn}
use Rattle.cjc_types.specs.Bytecode.declared.insn.JOp.{JOp}
use Rattle.cjc_types.specs.Bytecode.declared.insn.JOp.TheVariants as jop
use Rattle.cjc_types.specs.Types.{parts, value_of}
use Rattle.cjc_types.specs.Rules.{is_number}

-- A constant is of a type whose values are numbers.
abbrev pub AreNumbers : (MemberId → Option ℤ) → Type 0
AreNumbers constant = (field : MemberId) (z : ℤ) → constant field ≡ Some z
    → is_number (value_of (parts field.desc).result) ≡ true

module _ (constant : MemberId → Option ℤ) where
  -- the constant of the field that an instruction names
  abbrev pub value_got : JOp → Option ℤ
  value_got (jop.Static put field) = constant field
  value_got _ = None

  -- the constant that each of these instructions gets, none where it gets none
  abbrev pub values_of : List JInsn → List (Option ℤ)
  values_of insns = map (λ (i : JInsn). value_got i.op) insns
