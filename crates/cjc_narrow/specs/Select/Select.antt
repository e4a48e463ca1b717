-- When the numbers of a method fit the operands of narrow code.
use Rattle.std.specs.Prelude.{◌≡◌, ℕ, List, length, slice_get, Some, Bool, true}
use Rattle.cjc_types.specs.ClassFile.Code.{CodeTree}
use Rattle.cjc_types.specs.ClassFile.declared.tree.MethodTree.{MethodTree}
use Rattle.cjc_types.specs.Bytecode.declared.insn.JInsn.{JInsn}
use Rattle.cjc_narrow.specs.Rows.Resolved.{argument_words}
use Rattle.cjc_narrow.specs.Written.Operands.{CanBeSaid, IsAscending, IsByte}

-- Instructions stand in the order of their offsets, and one byte can say each number that narrow code names: the words
-- of the method, and those of its reached instructions.
pub record IsSelectable (method : MethodTree) (code : CodeTree) (insns : List JInsn) (reached : List Bool) :
    Type 0 where
  pub stack : IsByte code.max_stack
  pub locals : IsByte code.max_locals
  pub words : IsByte (argument_words method.flags method.desc)
  pub each : length reached ≡ length insns
  pub ascending : IsAscending insns
  pub said : (k : ℕ) (i : JInsn) → slice_get insns k ≡ Some i → slice_get reached k ≡ Some true → CanBeSaid i.op
