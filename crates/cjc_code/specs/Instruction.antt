-- Which bytes an instruction is spelt by (Java Virtual Machine Specification, 6.5).
use Rattle.std.specs.Prelude.{ℕ, Bool, true, false, List, [], ◌∷◌, ◌++◌, Option, Some, None, ℤ, pos}
use Rattle.std.specs.Int.{w8, w16, w32, cast_signed}
use Rattle.cjc_bytes.specs.Format.{Format, number, here, gives, raw, repeated, ◌>>=◌}
use Rattle.cjc_code.specs.declared.raw.Raw.{Raw}
use Rattle.cjc_code.specs.declared.table.Opcode.{Opcode}
use Rattle.cjc_code.specs.declared.table.Operand.{Operand}
use Rattle.cjc_code.specs.declared.table.Operand.TheVariants.{Unsigned1, Signed1, Unsigned2, Signed2, Signed4}
use Rattle.cjc_code.specs.declared.table.Operands.{Operands}
use Rattle.cjc_code.specs.declared.table.Family.{Family}
use Rattle.cjc_code.specs.declared.table.Family.TheVariants as family
use Rattle.cjc_code.specs.Table.{row, heads, padding, tails, wide}

-- the number that the bytes of one operand spell, signed or unsigned
unfoldable pub operand : Operand → Format ℤ
operand Unsigned1 = number w8 (λ n. Some (pos n))
operand Signed1 = number w8 (λ n. Some (cast_signed w8 n))
operand Unsigned2 = number w16 (λ n. Some (pos n))
operand Signed2 = number w16 (λ n. Some (cast_signed w16 n))
operand Signed4 = number w32 (λ n. Some (cast_signed w32 n))

-- these operands, one after the other
unfoldable pub operands : List Operand → Format (List ℤ)
operands [] = gives []
operands (o ∷ os) = do
  z ← operand o
  zs ← operands os
  gives (z ∷ zs)

-- whether it is no opcode of the Java Virtual Machine
abbrev pub is_unknown : Family → Bool
is_unknown family.Unknown = true
is_unknown _ = false

-- whether it is the prefix `wide`
abbrev pub is_prefix : Family → Bool
is_prefix family.Wide = true
is_prefix _ = false

-- the value, where the test does not hold
abbrev pub unless : {A : Type 0} → Bool → A → Option A
unless true x = None
unless false x = Some x

-- an opcode that there is
unfoldable pub opcode_at : ℕ → Option Opcode
opcode_at n = unless (is_unknown (row n).1) (record { number = n; operands = (row n).0; family = (row n).1 })

-- an opcode with the operands that it has behind the prefix, where it may stand there
abbrev pub widened : ℕ → Family → Option Operands → Option Opcode
widened n f (Some os) = Some (record { number = n; operands = os; family = f })
widened n f None = None

-- an opcode that may stand behind the prefix
unfoldable pub wide_opcode_at : ℕ → Option Opcode
wide_opcode_at n = widened n (row n).1 (wide (row n))

-- behind the opcode of an instruction that begins at this place
unfoldable pub behind_opcode : (at : ℕ) → Opcode → Format Raw
behind_opcode at op = do
  place ← here (λ k. k)
  free ← raw (padding op.operands place)
  first ← operands (heads op.operands)
  rest ← repeated (tails op.operands first) (operand Signed4)
  gives (record { at = at; opcode = op.number; family = op.family; numbers = first ++ rest })

-- behind the first byte of an instruction: after the prefix an opcode follows
unfoldable pub behind_first : (is_prefix : Bool) (at : ℕ) → Opcode → Format Raw
behind_first true at op = number w8 wide_opcode_at >>= behind_opcode at
behind_first false at op = behind_opcode at op

-- one instruction
unfoldable pub instruction : Format Raw
instruction = do
  at ← here (λ k. k)
  op ← number w8 opcode_at
  behind_first (is_prefix op.family) at op
