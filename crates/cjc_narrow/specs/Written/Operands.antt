-- Which numbers the operands of narrow code can say, and which instructions ask look-ups by name.
use Rattle.std.specs.Prelude.{◌≡◌, ◌<◌, ℕ, List, slice_get, Some, Bool, true, false}
use Rattle.cjc_types.specs.Bytecode.declared.insn.JInsn.{JInsn}
use Rattle.cjc_types.specs.Bytecode.declared.insn.JOp.{JOp}
use Rattle.cjc_types.specs.Bytecode.declared.insn.JOp.TheVariants as jop
use Rattle.cjc_types.specs.Bytecode.Jvm as jvm
use Rattle.cjc_ncode.specs.Written.{nargs_of}

-- a number that one byte can say
abbrev pub IsByte : ℕ → Type 0
IsByte n = n < 256

-- One byte can say the local of an instruction, and the words of the method that an invokeinterface (0xB9) calls.
abbrev pub CanBeSaid : JOp → Type 0
CanBeSaid (jop.Load refs local) = IsByte local
CanBeSaid (jop.Store refs local) = IsByte local
CanBeSaid (jop.Inc local by) = IsByte local
CanBeSaid (jop.Call op method) = op ≡ jvm.invokeinterface → IsByte (nargs_of method)
CanBeSaid _ = Unit {0}

-- an instruction of a field or a call
abbrev pub names_member : JOp → Bool
names_member (jop.Static put field) = true
names_member (jop.Field put field) = true
names_member (jop.Call op method) = true
names_member _ = false

-- instructions in the order of their offsets
abbrev pub IsAscending : List JInsn → Type 0
IsAscending insns = (j k : ℕ) (x y : JInsn) → slice_get insns j ≡ Some x → slice_get insns k ≡ Some y → j < k
    → x.at < y.at
