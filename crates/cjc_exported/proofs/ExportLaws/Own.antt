-- The classes that others may name are classes of the package's files.
use Rattle.std.proofs.Common.{◌≡◌, ℕ, sym, ◌∙◌, true, false, Some}
use Rattle.std.specs.Prelude.{slice_get}
use Rattle.cjc_world.specs.ClassFile.declared.tree.ClassTree.{ClassTree}
use Rattle.cjc_world.specs.Classes.{Class, declared, class_at}
use Rattle.cjc_world.specs.Exported.{is_exported}
use Rattle.cjc_components.proofs.VTableNumbers.{at-tree}
use Rattle.cjc_exported.specs.ExportFile.Working.Sources.{is_of_kind}
use Rattle.cjc_exported.proofs.ExportFile.ByNumber.{of-number}
use Rattle.cjc_components.specs.Package.{Package, has_applets, world}
use Rattle.cjc_components.specs.Exports.{exported_classes}
use Rattle.cjc_exported.proofs.ExportLaws.Each.{filtered}

-- a class of the package with its class file
pub record IsOwn (p : Package) (c : Class) : Type 0 where
  pub number : ℕ
  pub tree : ClassTree
  pub is_class : class_at (world p) false number ≡ Some c
  pub is_tree : slice_get (let files = p.files in files.classes) number ≡ Some tree
  pub is : c ≡ declared number tree
  pub exported : is_exported (world p) (has_applets p) c ≡ true

pub own_class : (p : Package) (k : ℕ) (c : Class) → slice_get (exported_classes p) k ≡ Some c → IsOwn p c
own_class p k c at =
    let r = filtered (is_of_kind false) (is_exported (world p) (has_applets p)) (world p) k c at in
    let there = sym (of-number p.files false r.0) ∙ r.1 in
    let t = at-tree p.files r.0 c there in
    record { number = r.0; tree = t.0; is_class = there; is_tree = t.1; is = t.2; exported = r.2 }
