-- The methods of a package that breaks no rule are members of its classes.
use Rattle.std.proofs.Common.{◌≡◌, ◌≤◌, refl, sym, ap, ◌∙◌, arith, false, List, [], ◌∷◌}
use Rattle.std.proofs.Common.{length}
use Rattle.std.specs.Prelude.{All, Option, Some, None, map, option_map, slice_get}
use Rattle.std.proofs.lemmas.Option.{slice_get_within}
use Rattle.cjc_exported.specs.ClassFile.declared.tree.ClassTree.{ClassTree}
use Rattle.cjc_methods.specs.ClassOrder.Classes.Numbers.{class_count, declared_at}
use Rattle.cjc_methods.proofs.ClassOrderDeclared.{order_declared}
use Rattle.cjc_methods.specs.Ready.{IsListed, IsOwn}
use Rattle.cjc_methods.proofs.Ownership.{ordered_listed, ordered_own}
use Rattle.cjc_narrow_proof.proofs.VTableNumbers.{own_listed}
use Rattle.cjc_exported.specs.World.Classes.{Class, all_classes, class_at, declared}
use Rattle.cjc_exported.specs.World.Files.{Files}
use Rattle.cjc_exported.specs.World.Order.{in_order, method_order}

module _ (files : Files) (listed : length files.classes ≤ class_count files.lines) where
  numbered : (c : Class) → Some c ≡ declared_at files.classes c.number → class_at (all_classes files) false c.number
      ≡ Some c
  numbered c e = by (slice_get files.classes c.number) refl
    where
      by : (o : Option ClassTree) → slice_get files.classes c.number ≡ o → class_at (all_classes files) false c.number
          ≡ Some c
      by None f = let none : Some c ≡ None = e ∙ ap (option_map (declared c.number)) f in cc
      by (Some t) f = let lt = slice_get_within files.classes c.number t f
          in own_listed files c.number (omega (arith, lt, listed)) ∙ sym e

  all_numbered : (cs : List Class) → map Some cs ≡ map (λ c. declared_at files.classes c.number) cs
      → map Some cs ≡ map (class_at (all_classes files) false) (map (λ c. c.number) cs)
  all_numbered [] e = refl
  all_numbered (c ∷ cs) e =
      let head : Some c ≡ declared_at files.classes c.number = cc in
      let tail : map Some cs ≡ map (λ d. declared_at files.classes d.number) cs = cc in
      ap (λ o. o ∷ map Some cs) (sym (numbered c head)) ∙ ap (λ os. class_at (all_classes files) false c.number
      ∷ os) (all_numbered cs tail)

  pub all_own : All (IsOwn files) (method_order (all_classes files))
  all_own = ordered_own files (map (λ c. c.number) (in_order (all_classes files) false))
      (all_numbered (in_order (all_classes files) false) (order_declared files false))

  -- none of them is an initialiser
  pub all_listed : All (IsListed files) (method_order (all_classes files))
  all_listed = ordered_listed files (map (λ c. c.number) (in_order (all_classes files) false))
      (all_numbered (in_order (all_classes files) false) (order_declared files false))
