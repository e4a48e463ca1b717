-- What the instructions of a method that was decoded are: their opcodes are those of their kinds, and their numbers
-- have so many bits.
use Rattle.std.specs.Prelude.{◌≡◌, ◌<◌, ℕ, Bool, true, ◌==◌, int_lt, List, [], ◌∷◌, length, ℤ, pos, ◌+ℤ◌, ◌-ℤ◌}
use Rattle.std.specs.List.{list_any}
use Rattle.cjc_code.specs.declared.insn.JCase.{JCase}
use Rattle.cjc_code.specs.declared.insn.JOp.{JOp}
use Rattle.cjc_code.specs.declared.insn.JOp.TheVariants as jop
use Rattle.cjc_code.specs.Jvm as jvm
use Rattle.cjc_range.specs.Span.{Holds, full, short_range}

-- a number is among these
abbrev pub is_one_of : ℕ → List ℕ → Bool
is_one_of n ns = list_any (λ k. n == k) ns

-- an opcode of the kind (Java Virtual Machine Specification, section 6.5)
abbrev pub has_opcode : JOp → Bool
has_opcode (jop.ArrayLoad n) = is_one_of n (jvm.iaload ∷ jvm.aaload ∷ jvm.baload ∷ jvm.saload ∷ [])
has_opcode (jop.ArrayStore n) = is_one_of n (jvm.iastore ∷ jvm.aastore ∷ jvm.bastore ∷ jvm.sastore ∷ [])
has_opcode (jop.Stack n) = is_one_of n (jvm.pop ∷ jvm.pop2 ∷ jvm.dup ∷ jvm.dup_x1 ∷ jvm.dup_x2 ∷ jvm.dup2 ∷ jvm.dup2_x1
    ∷ jvm.dup2_x2 ∷ jvm.swap ∷ [])
has_opcode (jop.Arith n) = is_one_of n (jvm.iadd ∷ jvm.isub ∷ jvm.imul ∷ jvm.idiv ∷ jvm.irem ∷ jvm.ineg ∷ jvm.ishl
    ∷ jvm.ishr ∷ jvm.iushr ∷ jvm.iand ∷ jvm.ior ∷ jvm.ixor ∷ [])
has_opcode (jop.Narrow n) = is_one_of n (jvm.i2b ∷ jvm.i2s ∷ [])
has_opcode (jop.If n target) = is_one_of n (jvm.ifeq ∷ jvm.ifne ∷ jvm.iflt ∷ jvm.ifge ∷ jvm.ifgt ∷ jvm.ifle
    ∷ jvm.if_icmpeq ∷ jvm.if_icmpne ∷ jvm.if_icmplt ∷ jvm.if_icmpge ∷ jvm.if_icmpgt ∷ jvm.if_icmple ∷ jvm.if_acmpeq
    ∷ jvm.if_acmpne ∷ jvm.ifnull ∷ jvm.ifnonnull ∷ [])
has_opcode (jop.Return n) = is_one_of n (jvm.ireturn ∷ jvm.areturn ∷ jvm.return ∷ [])
has_opcode (jop.Call n id) = is_one_of n (jvm.invokevirtual ∷ jvm.invokespecial ∷ jvm.invokestatic ∷ jvm.invokeinterface
    ∷ [])
has_opcode _ = true

-- a number of 32 bits that is pushed, one of 16 that is added to a local, the number of a newarray's type
abbrev pub NumbersFit : JOp → Type 0
NumbersFit (jop.Number z) = Holds full z
NumbersFit (jop.Inc k z) = Holds short_range z
NumbersFit (jop.NewArray n) = is_one_of n (4 ∷ 5 ∷ 6 ∷ 7 ∷ 8 ∷ 9 ∷ 10 ∷ 11 ∷ []) ≡ true
NumbersFit _ = Unit {0}

-- the matches of a tableswitch: from the lowest on there is one at least, and the lowest and the highest have 32 bits
pub record MatchesFit (low : ℤ) (count : ℕ) : Type 0 where
  pub some : 0 < count
  pub low_fits : Holds full low
  pub high_fits : Holds full ((low +ℤ pos count) -ℤ pos 1)

-- the matches of a lookupswitch have 32 bits, and each is greater than the one before
abbrev pub MatchesAscend : List JCase → Type 0
MatchesAscend [] = Unit {0}
MatchesAscend (c ∷ []) = Holds full c.value
MatchesAscend (c ∷ d ∷ cases) = Holds full c.value × (int_lt c.value d.value ≡ true) × MatchesAscend (d ∷ cases)

-- the matches of a switch
abbrev pub SwitchFits : JOp → Type 0
SwitchFits (jop.TableSwitch other low targets) = MatchesFit low (length targets)
SwitchFits (jop.LookupSwitch other cases) = MatchesAscend cases
SwitchFits _ = Unit {0}

-- an instruction has an opcode of its kind, and its numbers fit
pub record IsInstruction (op : JOp) : Type 0 where
  pub opcode : has_opcode op ≡ true
  pub numbers : NumbersFit op
  pub switch : SwitchFits op
