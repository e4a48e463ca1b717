-- What look-ups of narrow code say of types and objects, whatever the modes of its methods.
use Rattle.std.proofs.Common.{◌≡◌, ℕ, refl, ap, ◌∙◌, Bool, List, [], ◌∷◌, Option, Some, None}
use Rattle.std.specs.Prelude.{◌||◌}
use Rattle.cjc_bytes.specs.declared.fault.MemberId.{MemberId}
use Rattle.cjc_script.specs.Sorts.{Shape, OfClass, OfNumbers, OfReferences, shape_named}
use Rattle.cjc_world.specs.Files.{Files}
use Rattle.cjc_world.specs.declared.image.StaticImage.{StaticImage}
use Rattle.cjc_ncode.specs.ByLabel.{Named}
use Rattle.cjc_jvm_semantics.specs.Linked.{Method}
use Rattle.cjc_narrow_proof.specs.Runs.Tables.{Tables}
use Rattle.cjc_narrow_proof.specs.Selection.Relation.{HasObjects, IsMadeOf, bare, made}
use Rattle.cjc_narrow_proof.specs.Selection.Replies.{is_of_some}
use Rattle.cjc_narrow_proof.specs.Selection.Rows.{HasField}
use Rattle.cjc_narrow_proof.specs.Tables.Kinds.{is_named, is_one_of}
use Rattle.cjc_joint_theorem.specs.Asked.{group_named}
use Rattle.cjc_joint_theorem.specs.Together.Homes.{Homes, group_look_ups}
use Rattle.cjc_joint_modes.specs.Codes.{group_look_ups_by_mode}

module _ (group : List Files) (image : StaticImage) (homes : Homes) (tables : Tables) (is_int : Method → Bool) where
  abbrev l : Named
  l = group_look_ups_by_mode group image homes tables is_int

  abbrev short : Named
  short = group_look_ups group image homes tables

  of_some : (kind : Shape (List ℕ)) (o : Option (Shape (List ℕ))) → is_of_some l kind o ≡ is_of_some short kind o
  unfolding group_named
  of_some kind None = refl
  of_some kind (Some shape) = refl

  pub one_of : (names : List (List ℕ)) (kind : Shape (List ℕ)) → is_one_of l names kind ≡ is_one_of short names kind
  one_of [] kind = refl
  one_of (name ∷ names) kind = ap (λ b. b || is_one_of l names kind) (of_some kind (shape_named name))
      ∙ ap (λ b. is_named short name kind || b) (one_of names kind)

  objects : (class : List ℕ) (fields : List MemberId) → HasObjects l class fields → HasObjects short class fields
  unfolding group_named
  objects class fields (made e) = made e
  objects class fields (bare none e) = bare none e

  pub made_short : (kind : Shape (List ℕ)) → IsMadeOf l kind → IsMadeOf short kind
  unfolding group_named
  made_short (OfClass class) m = (m.0, objects class m.0 m.1)
  made_short (OfNumbers element) m = m
  made_short (OfReferences class) m = record { is_there = m.is_there; is_named = m.is_named }

  pub field_by_mode : (f : MemberId) (kind : Shape (List ℕ)) → HasField short f kind → HasField l f kind
  field_by_mode f kind h = record {
    class = h.class;
    is_class = h.is_class;
    has = λ fields has. h.has fields (objects h.class fields has);
  }
