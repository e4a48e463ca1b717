-- Static methods that code calls of class files of its package and of classes from outside: the joint world has each,
-- and the call reaches the same there.
use Rattle.std.proofs.Common.{◌≡◌, ℕ, Bool, true, false, List, Option, Some, refl, sym, ap, subst, ◌∙◌}
use Rattle.std.specs.Prelude.{◌⊎◌, not, option_map, slice_get, if◌then◌else◌}
use Rattle.cjc_bytes.specs.AccessFlags.{is_interface, is_static}
use Rattle.cjc_bytes.specs.declared.fault.MemberId.{MemberId}
use Rattle.cjc_bytes.proofs.Plain.{no_both}
use Rattle.cjc_components.specs.LowerNarrow.Rows.Package.{flags_of}
use Rattle.cjc_components.specs.LowerNarrow.Rows.Resolved.{method_found}
use Rattle.cjc_jvm_semantics.specs.Group.{joint, joint_method, package_of}
use Rattle.cjc_jvm_semantics.specs.Linked.{Abroad, Callee, Inside, Method}
use Rattle.cjc_jvm_semantics.specs.OnePackage.{ResolvedMember, method_at, method_hit, of_class}
use Rattle.cjc_world.specs.ClassFile.declared.tree.ClassTree.{ClassTree}
use Rattle.cjc_world.specs.Classes.{Class, all_classes, class_at, class_named, declared, imported}
use Rattle.cjc_world.specs.ExportFile.declared.tree.ExportClass.{ExportClass}
use Rattle.cjc_world.specs.Files.{Files}
use Rattle.cjc_world.specs.Lookup.{own_method}
use Rattle.cjc_world.specs.declared.found.Found.{Found}
use Rattle.cjc_world.specs.Upwards.{Below, OnLine}
use Rattle.cjc_world.proofs.UpwardLaws.Lines.{method_found_above}
use Rattle.cjc_vtable.proofs.Filed.{IsFiled, filed, in_class_file, in_export_file}
use Rattle.cjc_narrow_proof.specs.Runs.Begun.{IsBegun}
use Rattle.cjc_narrow_proof.specs.Runs.Calls as alone
use Rattle.cjc_narrow_proof.specs.Runs.Tables.{HasTables, Tables}
use Rattle.cjc_token_proof.proofs.WorldProofOwn.{IsAt, hit_is, own_at}
use Rattle.cjc_joint_proof.specs.JointNames.{place_of}
use Rattle.cjc_joint_proof.specs.Worlds.{AreApart, IsForeign, IsListed, IsOwn, before, found_at, found_in, hit_at}
use Rattle.cjc_joint_proof.specs.Worlds.{hit_in, outside_classes}
use Rattle.cjc_joint_proof.proofs.ForeignLaws.{foreign_found, foreign_hit_at, foreign_method}
use Rattle.cjc_joint_proof.proofs.MemberLaws.{code_together, hit_together, method_resolves}
use Rattle.cjc_joint_proof.proofs.PackageNames.{package_is}
use Rattle.cjc_joint_proof.proofs.SoundLaws as sound
use Rattle.cjc_joint_proof.proofs.TogetherLaws.{place_is}
use Rattle.cjc_joint_theorem.specs.Members.{Member, files_of, home_by, homes_of, member_of, number_of, tables_of}
use Rattle.cjc_joint_theorem.specs.Together.Calls.{IsCalleeIn, IsReachedIn, IsStaticIn}
use Rattle.cjc_joint_theorem.specs.Together.Calls as together
use Rattle.cjc_joint_theorem.specs.Together.Homes.{Home, Homes, HasTablesIn, IsBegunIn, files_for, joint_world}
use Rattle.cjc_joint_theorem.proofs.MembersLaws.Methods.{tables_here}
use Rattle.cjc_joint_theorem.proofs.MembersLaws.Worlds.{files_at, type_there}
use Rattle.cjc_joint_whole.specs.Whole.{AreWhole}
use Rattle.cjc_joint_whole.proofs.WholeLaws.Members.{are_members, solid_at, supers_together}

module _ (members : List Member) (is : AreWhole members) (q : ℕ) (p : Member) (at : slice_get members q ≡ Some p) where
  abbrev group : List Files
  group = files_of members

  abbrev w : List Class
  w = joint_world group

  abbrev v : List Class
  v = all_classes p.files

  abbrev homes : Homes
  homes = homes_of members

  abbrev tables : Tables
  tables = tables_of members

  are_apart : AreApart group
  are_apart = sound.apart group is.sound

  member_is : slice_get group q ≡ Some p.files
  member_is = files_at members q p at

  -- ---- the package of a method of a class file

  place_here : (k : ℕ) (t : ClassTree) → (let f = p.files in slice_get f.classes k ≡ Some t) → place_of group t.name ≡ q
  place_here k t file =
      let own : IsOwn group q k p.files t = record { member = member_is; file = file } in
      let f = p.files in
      place_is group q p.files t.name member_is (sym (package_is f.package_name t.name (are_apart.own q k p.files t
      own))) (λ j g there same. (let s = is.sound in s.names j q g p.files there member_is same))

  pub member_here : (m : Method) → HasTables p.files p.tables m → member_of members m ≡ Some p
  member_here m has =
      let class_is : (let c = has.class in c.name) ≡ (let id = m.id in id.class) = ap (λ (n : Method). let id = n.id
      in id.class) (sym has.is) in
      ap (slice_get members) (ap (place_of group) (sym class_is) ∙ place_here (let code = has.code in code.class)
      has.class (let of = has.of_package in of.is_class)) ∙ at

  pub begun_here : (on : Bool) (desc : List ℕ) (m : Method) → IsBegun p.files p.tables on desc m
      → IsBegunIn group homes tables on desc m
  begun_here on desc m b =
      let here = member_here m b.has_tables in
      let has = tables_here members (are_members members is) p m here b.has_tables in
      let same : files_for homes m ≡ p.files = ap (λ (h : Home). h.files) (ap (home_by (number_of members m)) here) in
      record {
        has_tables = has;
        begun = again (files_for homes m) same has.has;
      }
    where
      again : (f : Files) → f ≡ p.files → HasTables f tables m → IsBegun f tables on desc m
      again f same has = record { has_tables = has; desc = b.desc; flags = subst (λ g. Flags g) (sym same) b.flags }
        where
          Flags : Files → Type 0
          Flags g = is_static (flags_of (method_found (all_classes g) m.id)) ≡ not on

  -- ---- a static call

  module _ (id : MemberId) (h : alone.IsStaticOn p.files p.tables id) where
    abbrev c : alone.IsCallee p.files id
    c = h.method

    reached : (callee : Callee) → alone.IsReached p.files p.tables id callee → IsReachedIn group homes tables id callee
    reached _ (alone.inside {m = m} b) = together.inside (begun_here false id.desc m b)
    reached _ (alone.abroad e) = together.abroad e

    made : (n : ℕ) (t : ClassTree) → (let f = p.files in slice_get f.classes n ≡ Some t)
        → own_method false id.name id.desc (declared n t) ≡ Some c.place → (let hit = c.hit in hit.owner ≡ declared n t)
        → c.place.imported ≡ false → IsStaticIn group homes tables p.files id
    made n t file own owner mine =
        let own_file : IsOwn group q n p.files t = record { member = member_is; file = file } in
        let listed = sound.listed group is.sound q n p.files t own_file in
        let before_it = before group q in
        record {
          method = record {
            place = c.place;
            hit = c.hit;
            found = c.found;
            is_hit = c.is_hit;
            again = c.again;
            there = found_in before_it c.place;
            met = hit_in before_it c.hit;
            stands = ap (λ d. joint_method w d id) owner ∙ method_resolves group are_apart q n p.files t own_file listed
                id c.place own;
            is_met = hit_together group are_apart q n p.files t own_file listed id c.place own c.hit c.is_hit;
            is_above = supers_together members is q p.files member_is id.class (let hit = c.hit in let o = hit.owner
                in o.name) c.above;
            no_initialiser = c.no_initialiser;
            desc = c.desc;
            result = λ kind e. type_there members (are_members members is) q p.files member_is kind (c.result kind e);
          };
          is_static_one = h.is_static_one;
          no_constructor = h.no_constructor;
          callee = h.callee;
          reaches =
              ap (λ b. if b then Some (Abroad (of_class (let hit = c.hit in let o = hit.owner in o.name) id))
              else option_map Inside (method_at (joint group) (found_in before_it c.place))) mine
              ∙ ap (option_map Inside) (code_together group are_apart q n p.files t own_file listed id c.place own)
              ∙ sym (ap (λ b. if b then Some (Abroad (of_class (let hit = c.hit in let o = hit.owner in o.name) id))
              else option_map Inside (method_at p.files c.place)) mine)
              ∙ h.reaches;
          is_reached = reached h.callee h.is_reached;
        }

    pub own_static_stands : (let hit = c.hit in let o = hit.owner in o.is_imported) ≡ false
        → IsStaticIn group homes tables p.files id
    own_static_stands mine = by (filed p.files d.name d above.2) above.2 above.3 owner
      where
        above : (d : Class) × Below v id.class d.name × (class_named v d.name ≡ Some d)
            × (own_method false id.name id.desc d ≡ Some c.place) × (OnLine v id.class d
            ⊎ (is_interface d.flags ≡ true))
        above = let s = solid_at members is q p at in method_found_above v s.ordered id.class id.name id.desc c.place
            c.found

        d : Class
        d = above.0

        place : IsAt false id.name id.desc d c.place
        place = own_at false id.name id.desc d c.place above.3

        owner : (let hit = c.hit in hit.owner) ≡ d
        owner =
            let s = solid_at members is q p at in
            let m = place.member in
            let both : Some c.hit ≡ Some (record { owner = d; flags = m.flags }) = sym c.is_hit ∙ ap (method_hit v)
            place.is ∙ hit_is v d place.place m (s.numbered d.name d above.2) place.is_member in
            let same : c.hit ≡ record { owner = d; flags = m.flags } = cc in
            ap (λ (x : ResolvedMember). x.owner) same

        by : {d : Class} → IsFiled p.files d → class_named v d.name ≡ Some d
            → own_method false id.name id.desc d ≡ Some c.place → (let hit = c.hit in hit.owner) ≡ d
            → IsStaticIn group homes tables p.files id
        by (in_class_file n t file) named own same =
            let it = own_at false id.name id.desc (declared n t) c.place own in
            made n t file own same (ap (λ (f : Found). f.imported) it.is)
        by (in_export_file n e file) named own same = no_both (sym (ap (λ (x : Class). x.is_imported) same) ∙ mine)

    -- ---- of a class from outside

    made_outside : (k n : ℕ) (e : ExportClass) → slice_get (outside_classes group) k ≡ Some e
        → IsForeign p.files n e → own_method false id.name id.desc (imported n e) ≡ Some c.place
        → (let hit = c.hit in hit.owner ≡ imported n e) → IsStaticIn group homes tables p.files id
    made_outside k n e kept foreign own owner =
        let mine = foreign_found group are_apart is.outside k n p.files e kept foreign id c.place own in
        let event = of_class (let hit = hit_at k c.hit in let o = hit.owner in o.name) id in
        record {
          method = record {
            place = c.place;
            hit = c.hit;
            found = c.found;
            is_hit = c.is_hit;
            again = c.again;
            there = found_at k c.place;
            met = hit_at k c.hit;
            stands = ap (λ d. joint_method w d id) owner ∙ foreign_method group are_apart is.outside k n p.files e kept
                foreign id c.place own;
            is_met = foreign_hit_at group are_apart is.outside k n p.files e kept foreign id c.place own c.hit c.is_hit;
            is_above = supers_together members is q p.files member_is id.class (let hit = c.hit in let o = hit.owner
                in o.name) c.above;
            no_initialiser = c.no_initialiser;
            desc = c.desc;
            result = λ kind e. type_there members (are_members members is) q p.files member_is kind (c.result kind e);
          };
          is_static_one = h.is_static_one;
          no_constructor = h.no_constructor;
          callee = Abroad event;
          reaches = ap (λ b. if b then Some (Abroad event)
              else option_map Inside (method_at (joint group) (found_at k c.place))) mine;
          is_reached = together.abroad refl;
        }

    pub outside_static_stands : (k n : ℕ) (e : ExportClass) → slice_get (outside_classes group) k ≡ Some e
        → (let hit = c.hit in hit.owner ≡ imported n e) → IsStaticIn group homes tables p.files id
    outside_static_stands k n e kept owner =
        let s = solid_at members is q p at in
        let above = method_found_above v s.ordered id.class id.name id.desc c.place c.found in
        let d = above.0 in
        let place = own_at false id.name id.desc d c.place above.3 in
        let m = place.member in
        let both : Some c.hit ≡ Some (record { owner = d; flags = m.flags }) = sym c.is_hit ∙ ap (method_hit v) place.is
        ∙ hit_is v d place.place m (s.numbered d.name d above.2) place.is_member in
        let same : c.hit ≡ record { owner = d; flags = m.flags } = cc in
        let is_it : d ≡ imported n e = sym (ap (λ (x : ResolvedMember). x.owner) same) ∙ owner in
        made_outside k n e kept (subst (λ (x : Class). class_at v x.is_imported x.number ≡ Some x) is_it (s.numbered
        d.name d above.2)) (ap (own_method false id.name id.desc) (sym is_it) ∙ above.3) owner
