-- The classes and types that instructions name are in some file.
use Rattle.std.proofs.Common.{◌≡◌, ℕ, refl, sym, ap, subst, true, List}
use Rattle.std.specs.Prelude.{Option, Some, None, is_some, option_and_then, if◌then◌else◌}
use Rattle.cjc_jvm_semantics.specs.OnePackage.{is_made, made_of, object_fields}
use Rattle.cjc_token_proof.specs.ByToken.Supers.{HasShape, has_class}
use Rattle.cjc_narrow_proof.proofs.LawsLaws.Casts.{IsReadType}
use Rattle.cjc_narrow_proof.specs.Runs.Types.{IsThere, of_class, of_numbers, of_references}
use Rattle.cjc_token_proof.specs.Script.Sorts.{Shape, shape_named}
use Rattle.cjc_world.specs.Classes.{Class, class_named}
use Rattle.cjc_token_proof.specs.WrittenSends.Named.{IsTypeThere}

module _ (w : List Class) where
  pub class_is_there : (name : List ℕ) (c : Class) → class_named w name ≡ Some c → has_class w name ≡ true
  class_is_there name c e = ap is_some e

  -- a class of which objects are made
  pub made_is_there : (name : List ℕ) → made_of w name ≡ Some (object_fields w name) → has_class w name ≡ true
  made_is_there name made = by (class_named w name) made
    where
      by : (o : Option Class) → option_and_then (λ c. if is_made c then Some (object_fields w name) else None) o
          ≡ Some (object_fields w name) → is_some o ≡ true
      by None e = cc
      by (Some c) e = refl

  shape_there : (shape : Shape (List ℕ)) → IsThere w shape → HasShape w shape
  shape_there _ (of_class {class = name} c e) = class_is_there name c e
  shape_there _ of_numbers = tt
  shape_there _ (of_references {class = name} c e) = class_is_there name c e

  pub type_is_there : (name : List ℕ) → IsReadType w name → IsTypeThere w (shape_named name)
  type_is_there name there = subst (IsTypeThere w) (sym there.1) (shape_there there.0 there.2)
