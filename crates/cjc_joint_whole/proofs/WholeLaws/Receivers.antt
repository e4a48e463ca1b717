-- What may be there in the joint world, as a receiver of calls: a class from outside or one that is not abstract.
use Rattle.std.proofs.Common.{◌≡◌, ℕ, sym, subst, ◌∙◌, List, Some, inl, inr}
use Rattle.std.specs.Prelude.{slice_get}
use Rattle.cjc_bytes.specs.declared.fault.MemberId.{MemberId}
use Rattle.cjc_jvm_semantics.specs.Group.{joint_image}
use Rattle.cjc_world.specs.Classes.{Class}
use Rattle.cjc_world.specs.Files.{Files}
use Rattle.cjc_world.specs.Lookup.{object, receiver}
use Rattle.cjc_narrow_proof.specs.NCode.ByLabel.{Named}
use Rattle.cjc_narrow_proof.specs.Script.Sorts.{Booleans, Bytes, Ints, OfClass, OfNumbers, OfReferences, Shape, Shorts}
use Rattle.cjc_narrow_proof.specs.Script.Sorts.{shape_name}
use Rattle.cjc_narrow_proof.specs.Selection.Relation.{HasObjects, IsMadeOf, bare, made}
use Rattle.cjc_shape_proof.specs.WorldProof.Calls.Targets.{IsReceiver}
use Rattle.cjc_shape_proof.proofs.FindsLaws.Receivers.{made_class, plain_class, root_of}
use Rattle.cjc_token_proof.proofs.WorldProofTypes.{receiver_class}
use Rattle.cjc_joint_theorem.specs.Asked.{group_named}
use Rattle.cjc_joint_theorem.specs.Members.{Member, files_of, homes_of, images_of, tables_of}
use Rattle.cjc_joint_theorem.specs.Together.Homes.{group_look_ups, joint_world}
use Rattle.cjc_joint_theorem.proofs.MembersLaws.Worlds.{files_at}
use Rattle.cjc_joint_theorem.proofs.OrderedLaws.Ordered.{object_abroad}
use Rattle.cjc_joint_theorem.proofs.OrderedLaws.Standing.{class_stands, same_kind}
use Rattle.cjc_joint_whole.specs.Whole.{AreWholeWith}
use Rattle.cjc_joint_whole.proofs.WholeLaws.Members.{ordered_together, plain_together}

module _ {K : _} (members : List Member) (is : AreWholeWith K members) where
  abbrev group : List Files
  group = files_of members

  abbrev w : List Class
  w = joint_world group

  abbrev l : Named
  l = group_look_ups group (joint_image (images_of members)) (homes_of members) (tables_of members)

  -- java/lang/Object, which each package imports
  root : (q : ℕ) (p : Member) → slice_get members q ≡ Some p → IsReceiver w object
  root q p at =
      let one = is.each q p at in
      let whole = one.whole in
      let r = root_of p.files whole.sound in
      let h = class_stands group (ordered_together members is) q p.files (files_at members q p at) object r.class
      r.named in
      record {
        class = h.class;
        named = h.named;
        no_interface = same_kind group q p.files r.class h.class h.stands ∙ r.no_interface;
        made = inl (object_abroad group (ordered_together members is) h.class h.named);
      }

  of_class : (class : List ℕ) (fields : List MemberId) → HasObjects l class fields → IsReceiver w class
  unfolding group_named
  of_class class fields (made e) = let m = made_class w class fields e in record {
    class = m.class;
    named = m.found;
    no_interface = m.no_interface;
    made = inr m.no_abstract;
  }
  of_class class fields (bare none e) = let p = plain_class w class class e in record {
    class = p.class;
    named = p.found;
    no_interface = p.no_interface;
    made = inl p.imported;
  }

  pub receiver_in : (q : ℕ) (p : Member) → slice_get members q ≡ Some p → (kind : Shape (List ℕ)) → IsMadeOf l kind
      → IsReceiver w (receiver (shape_name kind))
  receiver_in q p at (OfClass class) made_one =
      let r = of_class class made_one.0 made_one.1 in
      subst (IsReceiver w) (sym (receiver_class class (plain_together members is class r.class r.named))) r
  receiver_in q p at (OfNumbers Booleans) made_one = root q p at
  receiver_in q p at (OfNumbers Bytes) made_one = root q p at
  receiver_in q p at (OfNumbers Shorts) made_one = root q p at
  receiver_in q p at (OfNumbers Ints) made_one = root q p at
  receiver_in q p at (OfReferences class) made_one = root q p at
