-- The classes of a converted package have code for what they declare, and its interfaces have no static method but
-- their initialisers.
use Rattle.std.specs.Prelude.{◌≡◌, ℕ, List, true, false, Some}
use Rattle.cjc_check_proof.specs.TokenProof.WrittenCalls.Calls.{KeepsSubtypes, KeepsTokens, NoStaticMethods}
use Rattle.cjc_check_proof.specs.TokenProof.WrittenCalls.Calls.{Receives}
use Rattle.cjc_check_proof.specs.WorldProof.Calls.Solid.{IsSolid}
use Rattle.cjc_classes.specs.List.Listed.{ListTree}
use Rattle.cjc_components.specs.Package.{Package, world}
use Rattle.cjc_narrow_proof.specs.Script.Sorts.{Shape, shape_name}
use Rattle.cjc_shape.specs.LowerJudge.declared.judged.Judged.{Judged}
use Rattle.cjc_world.specs.Classes.{Class, class_named}
use Rattle.cjc_world.specs.Lookup.{object}
use Rattle.cjc_world.specs.Subtype.{is_subtype, starts}
use Rattle.cjc_world.specs.Upwards.{IsOrdered}
use Rattle.cjc_shape_proof.specs.Written.Checked.{IsChecked}
use Rattle.cjc_shape_proof.specs.Written.Converted.{IsConverted}
use Rattle.cjc_shape_proof.proofs.WrittenLaws.Checked as checked
use Rattle.cjc_shape_proof.proofs.WrittenLaws.Files.{is_checked}

module _ (list : ListTree) (files : List (List ℕ)) (judged : Judged) (p : Package) (is : IsConverted list files judged
    p) where
  abbrev its : IsChecked list judged.codes p
  its = is_checked list files judged p is

  pub plain_names : (x : List ℕ) (c : Class) → class_named (world p) x ≡ Some c → starts 91 x ≡ false
  plain_names = checked.plain_names list judged.codes p its

  abbrev pub own_solid : IsSolid p.files
  own_solid = checked.own_solid list judged.codes p its

  pub own_ordered : IsOrdered (world p)
  own_ordered = checked.own_ordered list judged.codes p its

  pub no_static_methods : NoStaticMethods (world p)
  no_static_methods = checked.no_static_methods list judged.codes p its

  pub own_subtypes : KeepsSubtypes (world p)
  own_subtypes = checked.own_subtypes list judged.codes p its

  pub own_objects : (kind : Shape (List ℕ)) → Receives (world p) (Some kind)
      → is_subtype (world p) (shape_name kind) object ≡ true
  own_objects = checked.own_objects list judged.codes p its

  pub own_tokens : KeepsTokens (world p)
  own_tokens = checked.own_tokens list judged.codes p its
