-- The code of a method as a tree, without where its bytes lie in memory.
use Rattle.std.specs.Prelude.{ℕ, List}
use Rattle.cjc_classfile.specs.declared.tree.Catch.{Catch}

-- a Code attribute: its limits of stack and locals, the bytes of its instructions and its exception table
pub record CodeTree : Type 0 where
  pub max_stack : ℕ
  pub max_locals : ℕ
  pub bytes : List ℕ
  pub catches : List Catch
