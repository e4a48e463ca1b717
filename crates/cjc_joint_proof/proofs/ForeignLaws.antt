-- Members of classes of export files from outside that code names, in the joint world.
use Rattle.std.proofs.Common.{◌≡◌, ℕ, ◌+◌, refl, sym, ap, ◌∙◌, Bool, true, false, List, length, position}
use Rattle.std.specs.Prelude.{Option, Some, None, option_map, option_and_then, slice_get, ◌-◌, ◌&&◌, not, if◌then◌else◌}
use Rattle.std.specs.Prelude.{ℤ}
use Rattle.cjc_card_semantics.specs.Bytes.declared.fault.MemberId.{MemberId}
use Rattle.cjc_card_semantics.specs.ExportFile.declared.tree.ExportClass.{ExportClass}
use Rattle.cjc_exported.specs.World.Classes.{Class, Member, all_classes, imported}
use Rattle.cjc_exported.specs.World.Files.{Files}
use Rattle.cjc_exported.specs.World.Lookup.{find_field, find_method, is_called, is_wanted, member_at, own_method}
use Rattle.cjc_exported.specs.World.declared.found.Found.{Found}
use Rattle.cjc_link_semantics.specs.JvmSemantics.Linked.{Constant}
use Rattle.cjc_link_semantics.specs.JvmSemantics.OnePackage.{ResolvedMember, call_by, constant_at, field_by, field_hit}
use Rattle.cjc_link_semantics.specs.JvmSemantics.OnePackage.{field_named}
use Rattle.cjc_link_semantics.specs.JvmSemantics.OnePackage.{method_hit}
use Rattle.cjc_link_semantics.specs.JvmSemantics.Group.{call_from, field_from, find_exposed, joint, joint_call}
use Rattle.cjc_link_semantics.specs.JvmSemantics.Group.{joint_field_hit}
use Rattle.cjc_link_semantics.specs.JvmSemantics.Group.{joint_method, or_field, selection_for}
use Rattle.cjc_joint_proof.specs.Worlds.{AreApart, AreApartFromOutside, IsForeign, found_at, hit_at, outside_classes}
use Rattle.cjc_joint_proof.proofs.WorldLaws.{outside_at_number, outside_is_found}

-- a class's own method, where the class has another number
moves : (n : ℕ) (c : Class) (at : ℕ → ℕ) (o : Option ℕ) → option_map (λ i. member_at (record c { number = n }) (at i)) o
    ≡ option_map (found_at n) (option_map (λ i. member_at c (at i)) o)
moves n c at None = refl
moves n c at (Some i) = refl

pub method_moves : (n : ℕ) (c : Class) (selecting : Bool) (name desc : List ℕ)
    → own_method selecting name desc (record c { number = n })
    ≡ option_map (found_at n) (own_method selecting name desc c)
unfolding own_method
method_moves n c selecting name desc = moves n c (λ i. length c.fields + i)
    (position (λ (m : Member). is_wanted selecting
    m.flags && is_called name desc m) c.methods)

hit_moves : (n : ℕ) (c : Class) (o : Option Member)
    → option_map (λ (m : Member). record { owner = record c { number = n }; flags = m.flags }) o
    ≡ option_map (hit_at n) (option_map (λ (m : Member). record { owner = c; flags = m.flags }) o)
hit_moves n c None = refl
hit_moves n c (Some m) = refl

-- where a method that a class declares stands
record Place (c : Class) (f : Found) : Type 0 where
  place : ℕ
  is : f ≡ member_at c place

place_of : (c : Class) (name desc : List ℕ) (f : Found) → own_method false name desc c ≡ Some f → Place c f
unfolding own_method
place_of c name desc f e = by (position (λ (m : Member). is_wanted false m.flags && is_called name desc m) c.methods) e
  where
    by : (o : Option ℕ) → option_map (λ i. member_at c (length c.fields + i)) o ≡ Some f → Place c f
    by None e = cc
    by (Some i) e =
        let same : member_at c (length c.fields + i) ≡ f = cc in record { place = length c.fields + i; is = sym same }

module _ (group : List Files) (apart : AreApart group) (out : AreApartFromOutside group) (n k : ℕ) (p : Files)
    (e : ExportClass) (kept : slice_get (outside_classes group) n ≡ Some e) (there : IsForeign p k e) (id : MemberId)
    (f : Found) where
  pub foreign_method : own_method false id.name id.desc (imported k e) ≡ Some f
      → joint_method (all_classes (joint group)) (imported k e) id ≡ Some (found_at n f)
  foreign_method own =
      let w = all_classes (joint group) in
      ap (option_and_then (λ (d : Class). if true && not d.is_imported then find_exposed w e.name id
      else own_method false id.name id.desc d)) (outside_is_found group apart out n e kept)
      ∙ (method_moves n (imported k e) false id.name id.desc ∙ ap (option_map (found_at n)) own)

  foreign_hit : (m : ℕ) → method_hit (all_classes (joint group)) (member_at (imported n e) m)
      ≡ option_map (hit_at n) (method_hit (all_classes p) (member_at (imported k e) m))
  foreign_hit m =
      let c = imported k e in
      ap (option_and_then (λ (d : Class). option_map (λ (x : Member). record { owner = d; flags = x.flags }) (slice_get
      d.methods (m - length d.fields)))) (outside_at_number group n e kept)
      ∙ (hit_moves n (imported k e) (slice_get c.methods (m - length c.fields))
      ∙ sym (ap (λ o. option_map (hit_at n) (option_and_then (λ (d : Class). option_map (λ (x : Member). record {
        owner = d;
        flags = x.flags;
      }) (slice_get d.methods (m - length d.fields))) o)) there))

  owner_is : (hit : ResolvedMember) (m : ℕ) → method_hit (all_classes p) (member_at (imported k e) m) ≡ Some hit
      → hit.owner ≡ imported k e
  owner_is hit m is = by (let c = imported k e in slice_get c.methods (m - length c.fields))
      (sym (ap (option_and_then (λ
      (d : Class). option_map (λ (x : Member). record { owner = d; flags = x.flags }) (slice_get d.methods (m - length
      d.fields)))) there) ∙ is)
    where
      by : (o : Option Member) → option_map (λ (x : Member). record { owner = imported k e; flags = x.flags }) o
          ≡ Some hit → hit.owner ≡ imported k e
      by None g = cc
      by (Some x) g = let same : record { owner = imported k e; flags = x.flags } ≡ hit = cc in sym (ap (λ (y :
          ResolvedMember). y.owner) same)

  -- where it is found in the joint world
  pub foreign_hit_at : own_method false id.name id.desc (imported k e) ≡ Some f → (hit : ResolvedMember)
      → method_hit (all_classes p) f ≡ Some hit → method_hit (all_classes (joint group)) (found_at n f)
      ≡ Some (hit_at n hit)
  foreign_hit_at own hit is =
      let w = all_classes (joint group) in
      let at = place_of (imported k e) id.name id.desc f own in
      ap (λ g. method_hit w (found_at n g)) at.is
      ∙ (foreign_hit at.place ∙ ap (option_map (hit_at n)) (ap (method_hit (all_classes p)) (sym at.is) ∙ is))

  -- its class
  pub foreign_owner : own_method false id.name id.desc (imported k e) ≡ Some f → (hit : ResolvedMember)
      → method_hit (all_classes p) f ≡ Some hit → hit.owner ≡ imported k e
  foreign_owner own hit is =
      let at = place_of (imported k e) id.name id.desc f own in
      owner_is hit at.place (ap (method_hit (all_classes p)) (sym at.is) ∙ is)

  pub foreign_found : own_method false id.name id.desc (imported k e) ≡ Some f → f.imported ≡ true
  foreign_found own = let at = place_of (imported k e) id.name id.desc f own in ap (λ (g : Found). g.imported) at.is

  pub foreign_call : own_method false id.name id.desc (imported k e) ≡ Some f
      → find_method (all_classes p) id.class id.name id.desc ≡ Some f → (hit : ResolvedMember)
      → method_hit (all_classes p) f ≡ Some hit → (holder : List ℕ) (op : ℕ)
      → call_from (joint group) (all_classes (joint group)) holder op id p
      ≡ call_by (joint group) (all_classes (joint group)) (selection_for (all_classes (joint group)) (hit_at n hit))
      holder op id (found_at n f) (hit_at n hit)
  foreign_call own found hit is holder op =
      let w = all_classes (joint group) in
      ap (option_and_then (λ f. option_and_then (joint_call (joint group) w holder op id) (method_hit (all_classes p)
      f))) found
      ∙ (ap (option_and_then (joint_call (joint group) w holder op id)) is
      ∙ (ap (option_and_then (λ f. option_and_then (λ hit. call_by (joint group) w (selection_for w hit) holder op id f
      hit) (method_hit w f))) (ap (λ d. joint_method w d id) (foreign_owner own hit is) ∙ foreign_method own)
      ∙ ap (option_and_then (λ hit. call_by (joint group) w (selection_for w hit) holder op id (found_at n f) hit))
      (foreign_hit_at own hit is)))

-- ---- constants, whoever declares them

module _ (group : List Files) (p : Files) (id : MemberId) (f : Found) (hit : ResolvedMember) (z : ℤ)
    (found : find_field (all_classes p) id.class id.name id.desc ≡ Some f)
    (is : field_hit (all_classes p) f ≡ Some hit) (value : constant_at p f ≡ Some z) where
  pub constant_alone : field_named p (all_classes p) id ≡ Some (Constant z)
  constant_alone =
      ap (option_and_then (λ f. option_map (field_by (constant_at p f) id) (field_hit (all_classes p) f))) found
      ∙ (ap (option_map (field_by (constant_at p f) id)) is ∙ ap (λ o. Some (field_by o id hit)) value)

  pub constant_together : field_from (joint group) (all_classes (joint group)) id p ≡ Some (Constant z)
  constant_together =
      let w = all_classes (joint group) in
      ap (option_and_then (λ f. or_field (constant_at p f) (option_and_then (joint_field_hit (joint group) w id)
      (field_hit (all_classes p) f)))) found
      ∙ ap (λ o. or_field o (option_and_then (joint_field_hit (joint group) w id) (field_hit (all_classes p) f))) value
