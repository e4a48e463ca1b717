-- What a class breaks against one that stands above, and against another.
use Rattle.std.proofs.Common.{◌≡◌, sym, ap, Bool, true, false, List, []}
use Rattle.std.specs.Prelude.{if◌then◌else◌}
use Rattle.cjc_code.specs.ClassFile.declared.tree.ClassTree.{ClassTree}
use Rattle.cjc_world.specs.Classes.{Class}
use Rattle.cjc_subset.specs.Overriding.{class_against, is_inherited, supertype_breaks}
use Rattle.cjc_bytes.specs.Order.{FilePlace}

module _ (w : List Class) (f : FilePlace) (c : ClassTree) (d : Class) where
  pub supertypes_above : is_inherited w c d ≡ true → class_against w f c d ≡ supertype_breaks w f c d
  unfolding supertype_breaks
  supertypes_above e = sym (ap (λ (b : Bool). if b then class_against w f c d else []) e)

  pub supertypes_not_above : is_inherited w c d ≡ false → supertype_breaks w f c d ≡ []
  unfolding supertype_breaks
  supertypes_not_above e = ap (λ (b : Bool). if b then class_against w f c d else []) e
