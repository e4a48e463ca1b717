-- The instructions that the card has and that name nothing outside of their method.
use Rattle.std.specs.Prelude.{ℕ, List, true, false, ℤ}
use Rattle.cjc_range.specs.Span.{Holds, short_range, full}
use Rattle.cjc_code.specs.declared.insn.JCase.{JCase}
use Rattle.cjc_code.specs.declared.insn.JOp.{JOp}
use Rattle.cjc_code.specs.declared.insn.JOp.TheVariants as jop

-- those that the card has, with numbers of 32 bits and increases of 16
pub data IsPlain : JOp → Type 0 where
  nop : IsPlain jop.Nop
  aconst_null : IsPlain jop.Null
  number : {z : ℤ} → Holds full z → IsPlain (jop.Number z)
  iload : {k : ℕ} → IsPlain (jop.Load false k)
  aload : {k : ℕ} → IsPlain (jop.Load true k)
  istore : {k : ℕ} → IsPlain (jop.Store false k)
  astore : {k : ℕ} → IsPlain (jop.Store true k)
  pop : IsPlain (jop.Stack 0x57)
  pop2 : IsPlain (jop.Stack 0x58)
  dup : IsPlain (jop.Stack 0x59)
  dup_x1 : IsPlain (jop.Stack 0x5A)
  dup_x2 : IsPlain (jop.Stack 0x5B)
  dup2 : IsPlain (jop.Stack 0x5C)
  dup2_x1 : IsPlain (jop.Stack 0x5D)
  dup2_x2 : IsPlain (jop.Stack 0x5E)
  swap : IsPlain (jop.Stack 0x5F)
  iadd : IsPlain (jop.Arith 0x60)
  isub : IsPlain (jop.Arith 0x64)
  imul : IsPlain (jop.Arith 0x68)
  idiv : IsPlain (jop.Arith 0x6C)
  irem : IsPlain (jop.Arith 0x70)
  ineg : IsPlain (jop.Arith 0x74)
  ishl : IsPlain (jop.Arith 0x78)
  ishr : IsPlain (jop.Arith 0x7A)
  iushr : IsPlain (jop.Arith 0x7C)
  iand : IsPlain (jop.Arith 0x7E)
  ior : IsPlain (jop.Arith 0x80)
  ixor : IsPlain (jop.Arith 0x82)
  iinc : {k : ℕ} {z : ℤ} → Holds short_range z → IsPlain (jop.Inc k z)
  i2b : IsPlain (jop.Narrow 0x91)
  i2s : IsPlain (jop.Narrow 0x93)
  ifeq : {target : ℕ} → IsPlain (jop.If 0x99 target)
  ifne : {target : ℕ} → IsPlain (jop.If 0x9A target)
  iflt : {target : ℕ} → IsPlain (jop.If 0x9B target)
  ifge : {target : ℕ} → IsPlain (jop.If 0x9C target)
  ifgt : {target : ℕ} → IsPlain (jop.If 0x9D target)
  ifle : {target : ℕ} → IsPlain (jop.If 0x9E target)
  if_icmpeq : {target : ℕ} → IsPlain (jop.If 0x9F target)
  if_icmpne : {target : ℕ} → IsPlain (jop.If 0xA0 target)
  if_icmplt : {target : ℕ} → IsPlain (jop.If 0xA1 target)
  if_icmpge : {target : ℕ} → IsPlain (jop.If 0xA2 target)
  if_icmpgt : {target : ℕ} → IsPlain (jop.If 0xA3 target)
  if_icmple : {target : ℕ} → IsPlain (jop.If 0xA4 target)
  if_acmpeq : {target : ℕ} → IsPlain (jop.If 0xA5 target)
  if_acmpne : {target : ℕ} → IsPlain (jop.If 0xA6 target)
  ifnull : {target : ℕ} → IsPlain (jop.If 0xC6 target)
  ifnonnull : {target : ℕ} → IsPlain (jop.If 0xC7 target)
  goto : {target : ℕ} → IsPlain (jop.Goto target)
  tableswitch : {other : ℕ} {low : ℤ} {targets : List ℕ} → IsPlain (jop.TableSwitch other low targets)
  lookupswitch : {other : ℕ} {cases : List JCase} → IsPlain (jop.LookupSwitch other cases)

-- ireturn, areturn and return
pub data IsReturn : (opcode : ℕ) → Type 0 where
  ireturn : IsReturn 0xAC
  areturn : IsReturn 0xB0
  returns : IsReturn 0xB1
