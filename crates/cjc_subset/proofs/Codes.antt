-- What is broken in a method by its numbers, where the class and the method are there, and where one is not.
use Rattle.std.proofs.Common.{◌≡◌, ◌∙◌, ℕ, sym, ap, subst, List, []}
use Rattle.std.specs.Prelude.{Option, Some, None, slice_get}
use Rattle.cjc_code.specs.ClassFile.declared.tree.ClassTree.{ClassTree}
use Rattle.cjc_code.specs.ClassFile.declared.tree.MethodTree.{MethodTree}
use Rattle.cjc_world.specs.Files.{Files}
use Rattle.cjc_bytes.specs.Breaks.{Break, IsFirstOf}
use Rattle.cjc_subset.specs.Places.{of_class, of_code, of_method}
use Rattle.cjc_bytes.specs.Order.{FilePlace, file_of}

module _ (files : Files) (class method : ℕ) (breaks : FilePlace → ClassTree → MethodTree → List Break) where
  pub code_there : (c : ClassTree) (m : MethodTree) (f : FilePlace) (o : Option Break) → slice_get files.classes class
      ≡ Some c → slice_get c.methods method ≡ Some m → f ≡ file_of files.lines class → IsFirstOf (breaks f c m) o
      → IsFirstOf (of_code files class method breaks) o
  code_there c m f o in_classes in_methods file h =
      subst (λ (v : Option ClassTree). IsFirstOf (of_class breaks (file_of files.lines class) method v) o)
      (sym in_classes)
      (subst (λ (v : Option MethodTree). IsFirstOf (of_method breaks (file_of files.lines class) c v) o)
      (sym in_methods)
      (subst (λ (v : FilePlace). IsFirstOf (breaks v c m) o) file h))

  pub class_missing : slice_get files.classes class ≡ None → of_code files class method breaks ≡ []
  class_missing e = ap (λ (v : Option ClassTree). of_class breaks (file_of files.lines class) method v) e

  pub method_missing : (c : ClassTree) → slice_get files.classes class ≡ Some c → slice_get c.methods method ≡ None
      → of_code files class method breaks ≡ []
  method_missing c e n =
      ap (λ (v : Option ClassTree). of_class breaks (file_of files.lines class) method v) e
      ∙ ap (λ (v : Option MethodTree). of_method breaks (file_of files.lines class) c v) n
