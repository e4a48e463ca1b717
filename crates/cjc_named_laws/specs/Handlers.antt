-- What handlers of class files catch.
use Rattle.std.specs.Prelude.{◌≡◌, ℕ, slice_get, Some}
use Rattle.cjc_classfile.specs.Code.{CodeTree}
use Rattle.cjc_classfile.specs.declared.tree.Catch.{Catch}
use Rattle.cjc_classfile.specs.declared.tree.ClassTree.{ClassTree}
use Rattle.cjc_classfile.specs.declared.tree.MethodTree.{MethodTree}
use Rattle.cjc_world.specs.Files.{Files}
use Rattle.cjc_world.specs.Lookup.{object}

-- No handler names java/lang/Object: what it names is java/lang/Throwable or a subclass of it (Java Virtual Machine Specification, section 4.7.3).
pub record CatchThrowables (files : Files) : Type 0 where
  pub no_object : (n k j : ℕ) (class : ClassTree) (method : MethodTree) (tree : CodeTree) (c : Catch) → slice_get files.classes n ≡ Some class → slice_get class.methods k ≡ Some method → method.code ≡ Some tree → slice_get tree.catches j ≡ Some c
      → c.class ≡ Some object → ⊥
