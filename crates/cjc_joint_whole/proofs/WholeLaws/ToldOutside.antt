-- What a class or an interface from outside lists of the interfaces at or above it, which are from outside too.
use Rattle.std.proofs.Common.{◌≡◌, ℕ, refl, sym, ap, subst, ◌∙◌, false, true, List, Some, ⊎_elim}
use Rattle.std.specs.Prelude.{slice_get}
use Rattle.cjc_bytes.specs.AccessFlags.{is_interface}
use Rattle.cjc_bytes.proofs.Bools.{true_not_false}
use Rattle.cjc_bytes.proofs.Gets.{mapped_at}
use Rattle.cjc_jvm_semantics.specs.Group.{is_open}
use Rattle.cjc_world.specs.Classes.{Class, Member as WorldMember, class_named, imported, method_of_export}
use Rattle.cjc_world.specs.ExportFile.declared.tree.ExportClass.{ExportClass}
use Rattle.cjc_world.specs.Files.{Files}
use Rattle.cjc_world.specs.Supertypes.{Above}
use Rattle.cjc_world.specs.Upwards.{Below, IsOrdered}
use Rattle.cjc_world.proofs.UpwardLaws.Lines.{below_abroad}
use Rattle.cjc_joint_proof.specs.Worlds.{AreApart, outside_classes}
use Rattle.cjc_joint_proof.proofs.SoundLaws.{apart}
use Rattle.cjc_joint_proof.proofs.WorldLaws.{outside_is_found}
use Rattle.cjc_joint_theorem.specs.Members.{Member, files_of}
use Rattle.cjc_joint_theorem.specs.Together.Homes.{joint_world}
use Rattle.cjc_joint_theorem.proofs.OrderedLaws.Ordered.{IsJoint, joint_class, ordered, outside_file, own_file}
use Rattle.cjc_joint_whole.specs.Told.{HasOpenEntry, OutsideListsAbove}
use Rattle.cjc_joint_whole.specs.Whole.{AreWholeWith}
use Rattle.cjc_joint_whole.proofs.WholeLaws.Members.{ordered_together}

module _ {K : _} (members : List Member) (is : AreWholeWith K members)
    (lists : OutsideListsAbove (files_of members)) where
  abbrev group : List Files
  group = files_of members

  abbrev w : List Class
  w = joint_world group

  order : IsOrdered w
  order = ordered group (ordered_together members is)

  are_apart : AreApart group
  are_apart = apart group is.sound

  same_entry : {a b : ExportClass} → Some a ≡ Some b → a ≡ b
  same_entry e = cc

  pub lists_above : (k i : ℕ) (e : ExportClass) (z : Class) (m : WorldMember) → slice_get (outside_classes group) k
      ≡ Some e → class_named w z.name ≡ Some z → is_interface z.flags ≡ true → Below w e.name z.name
      → slice_get z.methods i ≡ Some m → is_open m.flags ≡ true → HasOpenEntry e.methods m.name m.desc
  lists_above k i e z m kept named it way there open_one =
      by z (joint_class group z.name z named) named it way there (below_abroad w order e.name z.name (imported k e) z
      way (outside_is_found group are_apart is.outside k e kept) refl named)
    where
      by : (z : Class) → IsJoint group z → class_named w z.name ≡ Some z → is_interface z.flags ≡ true
          → Below w e.name z.name → slice_get z.methods i ≡ Some m → z.is_imported ≡ true
          → HasOpenEntry e.methods m.name m.desc
      by _ (own_file q n p t own) named it way there imp = absurd cc
      by _ (outside_file n f kept_f) named it way there imp =
          let y = mapped_at method_of_export f.methods i m there in
          let x = y.0 in
          let open_x = ap (λ (u : WorldMember). is_open u.flags) y.2 ∙ open_one in
          let is_it : (HasOpenEntry e.methods x.name x.desc) = ⊎_elim
          (λ same. (let number = (let out = is.outside in out.once) k n e f kept kept_f same in
          let one : e ≡ f = same_entry (sym kept ∙ ap (slice_get (outside_classes group)) number ∙ kept_f) in
          record {
            place = i;
            entry = x;
            there = ap (λ (u : ExportClass). slice_get u.methods i) one ∙ y.1;
            has_name = refl;
            has_desc = refl;
            opened = open_x;
          }))
          (λ far. lists k n i e f x kept kept_f it far y.1 open_x)
          way in
          subst (λ (u : WorldMember). HasOpenEntry e.methods u.name u.desc) y.2 is_it
