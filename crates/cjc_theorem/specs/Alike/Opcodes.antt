-- Which opcodes calls of class files have.
use Rattle.std.specs.Prelude.{◌≡◌, ◌==◌, ℕ, List, slice_get, Some, false}
use Rattle.std.specs.List.{Contains}
use Rattle.cjc_bytes.specs.declared.fault.MemberId.{MemberId}
use Rattle.cjc_components.specs.Bytecode.declared.insn.JInsn.{JInsn}
use Rattle.cjc_components.specs.Bytecode.declared.insn.JOp.TheVariants as jop
use Rattle.cjc_components.specs.Bytecode.declared.method_code.MethodCode.{MethodCode}
use Rattle.cjc_components.specs.Bytecode.Jvm as jvm

-- Each call is an invokevirtual (0xB6), an invokespecial (0xB7), an invokeinterface (0xB9) or an invokestatic (0xB8).
abbrev pub CallsHaveOpcodes : List MethodCode → Type 0
CallsHaveOpcodes codes = (code : MethodCode) (k : ℕ) (i : JInsn) (op : ℕ) (id : MemberId) → Contains codes code
    → slice_get code.insns k ≡ Some i → i.op ≡ jop.Call op id → (op == jvm.invokevirtual) ≡ false
    → (op == jvm.invokespecial) ≡ false → (op == jvm.invokeinterface) ≡ false → op ≡ jvm.invokestatic
