-- The instructions that the card has and that name nothing outside of their method.
use Rattle.std.specs.Prelude.{ℕ, List, true, false, ℤ}
use Rattle.cjc_range.specs.Span.{Holds, short_range, full}
use Rattle.cjc_code.specs.declared.insn.JCase.{JCase}
use Rattle.cjc_code.specs.declared.insn.JOp.{JOp}
use Rattle.cjc_code.specs.declared.insn.JOp.TheVariants as jop
use Rattle.cjc_code.specs.Jvm as jvm

-- those that the card has, with numbers of 32 bits and increases of 16
pub data IsPlain : JOp → Type 0 where
  nop : IsPlain jop.Nop
  aconst_null : IsPlain jop.Null
  number : {z : ℤ} → Holds full z → IsPlain (jop.Number z)
  iload : {k : ℕ} → IsPlain (jop.Load false k)
  aload : {k : ℕ} → IsPlain (jop.Load true k)
  istore : {k : ℕ} → IsPlain (jop.Store false k)
  astore : {k : ℕ} → IsPlain (jop.Store true k)
  pop : IsPlain (jop.Stack jvm.pop)
  pop2 : IsPlain (jop.Stack jvm.pop2)
  dup : IsPlain (jop.Stack jvm.dup)
  dup_x1 : IsPlain (jop.Stack jvm.dup_x1)
  dup_x2 : IsPlain (jop.Stack jvm.dup_x2)
  dup2 : IsPlain (jop.Stack jvm.dup2)
  dup2_x1 : IsPlain (jop.Stack jvm.dup2_x1)
  dup2_x2 : IsPlain (jop.Stack jvm.dup2_x2)
  swap : IsPlain (jop.Stack jvm.swap)
  iadd : IsPlain (jop.Arith jvm.iadd)
  isub : IsPlain (jop.Arith jvm.isub)
  imul : IsPlain (jop.Arith jvm.imul)
  idiv : IsPlain (jop.Arith jvm.idiv)
  irem : IsPlain (jop.Arith jvm.irem)
  ineg : IsPlain (jop.Arith jvm.ineg)
  ishl : IsPlain (jop.Arith jvm.ishl)
  ishr : IsPlain (jop.Arith jvm.ishr)
  iushr : IsPlain (jop.Arith jvm.iushr)
  iand : IsPlain (jop.Arith jvm.iand)
  ior : IsPlain (jop.Arith jvm.ior)
  ixor : IsPlain (jop.Arith jvm.ixor)
  iinc : {k : ℕ} {z : ℤ} → Holds short_range z → IsPlain (jop.Inc k z)
  i2b : IsPlain (jop.Narrow jvm.i2b)
  i2s : IsPlain (jop.Narrow jvm.i2s)
  ifeq : {target : ℕ} → IsPlain (jop.If jvm.ifeq target)
  ifne : {target : ℕ} → IsPlain (jop.If jvm.ifne target)
  iflt : {target : ℕ} → IsPlain (jop.If jvm.iflt target)
  ifge : {target : ℕ} → IsPlain (jop.If jvm.ifge target)
  ifgt : {target : ℕ} → IsPlain (jop.If jvm.ifgt target)
  ifle : {target : ℕ} → IsPlain (jop.If jvm.ifle target)
  if_icmpeq : {target : ℕ} → IsPlain (jop.If jvm.if_icmpeq target)
  if_icmpne : {target : ℕ} → IsPlain (jop.If jvm.if_icmpne target)
  if_icmplt : {target : ℕ} → IsPlain (jop.If jvm.if_icmplt target)
  if_icmpge : {target : ℕ} → IsPlain (jop.If jvm.if_icmpge target)
  if_icmpgt : {target : ℕ} → IsPlain (jop.If jvm.if_icmpgt target)
  if_icmple : {target : ℕ} → IsPlain (jop.If jvm.if_icmple target)
  if_acmpeq : {target : ℕ} → IsPlain (jop.If jvm.if_acmpeq target)
  if_acmpne : {target : ℕ} → IsPlain (jop.If jvm.if_acmpne target)
  ifnull : {target : ℕ} → IsPlain (jop.If jvm.ifnull target)
  ifnonnull : {target : ℕ} → IsPlain (jop.If jvm.ifnonnull target)
  goto : {target : ℕ} → IsPlain (jop.Goto target)
  tableswitch : {other : ℕ} {low : ℤ} {targets : List ℕ} → IsPlain (jop.TableSwitch other low targets)
  lookupswitch : {other : ℕ} {cases : List JCase} → IsPlain (jop.LookupSwitch other cases)

-- ireturn, areturn and return
pub data IsReturn : (opcode : ℕ) → Type 0 where
  ireturn : IsReturn jvm.ireturn
  areturn : IsReturn jvm.areturn
  returns : IsReturn jvm.return
