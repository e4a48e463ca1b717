-- The code of a method as items of a class file.
use Rattle.std.specs.Prelude.{ℕ, List}
use Rattle.cjc_cmd_make.specs.declared.package.instruction.Instruction.{Instruction}

-- an attribute Code: the index of its name in the constant pool, its limits of stack and locals, and its instructions
-- (section 4.7.3)
pub record CodeAttribute : Type 0 where
  pub name : ℕ
  pub max_stack : ℕ
  pub max_locals : ℕ
  pub instructions : List Instruction
