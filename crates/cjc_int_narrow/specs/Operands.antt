-- Which numbers the operands of narrow code in int mode can say.
use Rattle.std.specs.Prelude.{◌≡◌, ℕ, List, slice_get, Option, Some}
use Rattle.cjc_int_mode.specs.Bytes.declared.fault.MemberId.{MemberId}
use Rattle.cjc_int_mode.specs.Bytecode.declared.insn.JInsn.{JInsn}
use Rattle.cjc_int_mode.specs.Bytecode.declared.insn.JOp.{JOp}
use Rattle.cjc_int_mode.specs.Bytecode.declared.insn.JOp.TheVariants as jop
use Rattle.cjc_int_mode.specs.Bytecode.Jvm as jvm
use Rattle.cjc_int_mode.specs.Script.Sorts.{signature_of}
use Rattle.cjc_ncode.specs.Written.{nargs_of}
use Rattle.cjc_ncode.specs.IntCode.IntCode.{Frame, first_word, scratch, scratch_pairs_by}
use Rattle.cjc_narrow.specs.Written.Operands.{IsByte}
use Rattle.cjc_int_narrow.specs.declared.known.Before.{Before}

-- One byte can say the words of the method that an invokeinterface (0xB9) calls, and each word of the scratch pairs.
pub record CallCanBeSaid (f : Frame) (op : ℕ) (method : MemberId) : Type 0 where
  pub interface : op ≡ jvm.invokeinterface → IsByte (nargs_of method)
  pub pairs : IsByte (scratch f (scratch_pairs_by (signature_of method.desc)))

-- One byte can say the first word of the local of an instruction, and what a call names.
abbrev pub CanBeSaid : Frame → JOp → Type 0
CanBeSaid f (jop.Load refs local) = IsByte (first_word f local)
CanBeSaid f (jop.Store refs local) = IsByte (first_word f local)
CanBeSaid f (jop.Inc local by) = IsByte (first_word f local)
CanBeSaid f (jop.Call op method) = CallCanBeSaid f op method
CanBeSaid f _ = Unit {0}

-- the same of each instruction before which something is known
abbrev pub AllCanBeSaid : Frame → List JInsn → List (Option Before) → Type 0
AllCanBeSaid f insns befores = (k : ℕ) (i : JInsn) (b : Before) → slice_get insns k ≡ Some i
    → slice_get befores k ≡ Some (Some b) → CanBeSaid f i.op
