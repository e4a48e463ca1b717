-- A method by its parts, whose labels are the places of these offsets.
use Rattle.std.specs.Prelude.{◌≡◌, ℕ, ◌-◌, Bool, List}
use Rattle.cjc_types.specs.ClassFile.Code.{CodeTree}
use Rattle.cjc_types.specs.Bytecode.declared.insn.JInsn.{JInsn}
use Rattle.cjc_ncode.specs.declared.narrow.NMethod.{NMethod}
use Rattle.cjc_ncode.specs.declared.narrow.PairRole.{PairRole}
use Rattle.cjc_ncode.specs.Written.{Resolution, catches_at, reached, widest_sum}
use Rattle.cjc_narrow.specs.Written.Rows.{rows_by}
use Rattle.cjc_narrow.specs.Select.Working.Code.{code_by, sources_by}

-- the parts of a method whose offsets have these places
pub record AreParts (r : Resolution) (code : CodeTree) (nargs : ℕ) (insns : List JInsn) (flags : List Bool)
    (roles : List PairRole) (place : ℕ → ℕ) (m : NMethod) : Type 0 where
  pub has_insns : m.insns ≡ code_by r place insns flags roles
  pub has_from : m.from ≡ sources_by r 0 insns flags roles
  pub has_catches : m.catches ≡ catches_at place code.catches
  pub has_stack : m.max_stack ≡ code.max_stack
  pub has_nargs : m.nargs ≡ nargs
  pub has_locals : m.max_locals ≡ code.max_locals - nargs
  pub has_widest : m.widest ≡ widest_sum (reached insns (rows_by flags))
