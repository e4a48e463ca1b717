-- Packages some of whose methods are in int mode, which break no rule.
use Rattle.std.specs.Prelude.{◌≡◌, ℕ, List, [], Some}
use Rattle.cjc_classes.specs.JvmSemantics.OnePackage.{method_by}
use Rattle.cjc_classes.specs.List.Listed.{ListTree}
use Rattle.cjc_classes.specs.Types.Flow.{body_of}
use Rattle.cjc_classes.specs.Types.Tables.{Breach, IsMethodOf}
use Rattle.cjc_components.specs.Bytecode.declared.method_code.MethodCode.{MethodCode}
use Rattle.cjc_components.specs.Limits.{form_breaks, of_methods, size_breaks}
use Rattle.cjc_components.specs.Package.{Package}
use Rattle.cjc_int_components.specs.Limits.{word_breaks_by_modes}
use Rattle.cjc_int_components.specs.Modes.{AreLeast, AreModes, Tables}
use Rattle.cjc_int_components.specs.Written.{IsPackageByModes}
use Rattle.cjc_shape_proof.specs.Written.Checked.{IsChecked}
use Rattle.cjc_world.specs.ClassFile.Code.{CodeTree}
use Rattle.cjc_world.specs.ClassFile.declared.tree.ClassTree.{ClassTree}
use Rattle.cjc_world.specs.ClassFile.declared.tree.MethodTree.{MethodTree}
use Rattle.cjc_world.specs.Classes.{all_classes}

-- No instruction that the types of a method reach breaks one of 501 to 503.
abbrev pub AreTypedByTables : Tables → Package → Type 0
AreTypedByTables t p =
    (code : MethodCode) (class : ClassTree) (method : MethodTree) (tree : CodeTree)
    → IsMethodOf p.files code class method tree → (place rule : ℕ)
    → Breach (all_classes p.files) (body_of class method tree code.insns) (t.types (method_by class method (Some tree)))
    place rule → ⊥

-- The package of a list, with the least tables of its methods and their modes. It breaks no rule of its files and
-- types, and none of 311, 411 and 414 to 417 by its modes. What its code rests on in class files, 601 to 609, is not
-- asked here.
pub record IsConvertedByModes (list : ListTree) (codes : List MethodCode) (t : Tables) (p : Package) : Type 0 where
  pub checked : IsChecked list codes p
  pub is_package : IsPackageByModes list p.files codes t p
  pub least : AreLeast p.files t
  pub modes : AreModes list.ints p.files t
  pub typed : AreTypedByTables t p
  pub words : of_methods p (word_breaks_by_modes t p) ≡ []
  pub forms : form_breaks p ≡ []
  pub sizes : size_breaks p ≡ []
