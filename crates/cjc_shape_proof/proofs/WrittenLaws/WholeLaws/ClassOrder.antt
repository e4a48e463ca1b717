-- The classes of a converted package in the order in which Class has them, and its methods in the order of Method.
use Rattle.std.proofs.Common.{◌≡◌, ℕ, sym, subst, ◌∙◌, false, List, map}
use Rattle.std.specs.Prelude.{All, Some}
use Rattle.cjc_classes.specs.ClassOrder.Classes.Numbers.{IsOfKind, declared_at}
use Rattle.cjc_components.specs.Package.{Package, world}
use Rattle.cjc_shape.specs.LowerJudge.declared.judged.Judged.{Judged}
use Rattle.cjc_classes.specs.List.Listed.{ListTree}
use Rattle.cjc_shape.specs.LowerMethods.Ready.{AreOrdered}
use Rattle.cjc_shape.proofs.PreparedLaws.Parts.{ordered}
use Rattle.cjc_shape.specs.Prepared.{IsSound}
use Rattle.cjc_shape.proofs.WholeLaws.Codes.{draft_files, package_is_draft}
use Rattle.cjc_shape.specs.Whole.Conversion.{IsPackageByModesOf}
use Rattle.cjc_world.specs.Classes.{all_classes}
use Rattle.cjc_world.specs.Files.{Files}
use Rattle.cjc_world.specs.Order.{in_order, method_order}

module _ (list : ListTree) (files : List (List ℕ)) (judged : Judged) (is : IsSound list files judged) (p : Package)
    (whole : IsPackageByModesOf list files p) where
  pub same_files : p.files ≡ judged.world
  same_files = draft_files list files judged is p (package_is_draft list files p whole)

  pub are_ordered : (order : List ℕ) → map Some (in_order (all_classes judged.world) false)
      ≡ map (declared_at (let w = judged.world in w.classes)) order → All (IsOfKind judged.world false) order
      → AreOrdered p.files order
  are_ordered order e all = subst (λ (fs : Files). AreOrdered fs order) (sym same_files) (e
      ∙ ordered judged.world order all)

  pub members_are : map (λ m. m.member) p.methods ≡ method_order (world p)
  members_are = whole.is_package.members
