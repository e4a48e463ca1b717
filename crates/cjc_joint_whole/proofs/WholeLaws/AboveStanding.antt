-- What the joint world has for a public or protected method that a package finds and that can be selected, whichever class
-- or interface declares it; and what is looked up there among public and protected methods is not package-visible.
use Rattle.std.proofs.Common.{◌≡◌, ℕ, refl, sym, ap, ◌∙◌, false, true, List, [], ◌∷◌, Option, Some, None, ⊎_elim}
use Rattle.std.specs.Prelude.{slice_get}
use Rattle.cjc_bytes.specs.AccessFlags.{is_interface}
use Rattle.cjc_bytes.specs.declared.fault.MemberId.{MemberId}
use Rattle.cjc_bytes.proofs.Bools.{true_or_false}
use Rattle.cjc_jvm_semantics.specs.Group.{find_exposed, is_exposed, is_open, is_package_visible, joint_exports, own_where}
use Rattle.cjc_jvm_semantics.specs.OnePackage.{ResolvedMember, is_constructor, is_initialiser, method_hit}
use Rattle.cjc_token_proof.proofs.WorldProofOwn.{IsAt, hit_is}
use Rattle.cjc_token_proof.specs.Subset.Members.{imports}
use Rattle.cjc_vtable.proofs.Filed.{IsFiled, filed, get-has, has-get, in_class_file, in_export_file, of-imports}
use Rattle.cjc_world.specs.Classes.{Class, all_classes, class_named, imported}
use Rattle.cjc_world.specs.ExportFile.declared.tree.ExportClass.{ExportClass}
use Rattle.cjc_world.specs.ExportFile.declared.tree.ExportTree.{ExportTree}
use Rattle.cjc_world.specs.Files.{Files}
use Rattle.cjc_world.specs.Interfaces.{gathered, known}
use Rattle.cjc_world.specs.Lookup.{first, or_else, own_method}
use Rattle.cjc_world.specs.Supertypes.{line, supertypes}
use Rattle.cjc_world.specs.Upwards.{IsOrdered}
use Rattle.cjc_world.specs.declared.found.Found.{Found}
use Rattle.cjc_world.proofs.Settled.{supertypes-AreSupertypes}
use Rattle.cjc_world.proofs.UpwardLaws.Lines.{first_has, gathered_above, line_named, of_line}
use Rattle.cjc_joint_proof.proofs.AboveLaws.{flat_at}
use Rattle.cjc_joint_theorem.specs.Members.{Member, files_of}
use Rattle.cjc_joint_theorem.specs.Together.Homes.{joint_world}
use Rattle.cjc_joint_theorem.proofs.OrderedLaws.Ordered.{ordered}
use Rattle.cjc_joint_whole.specs.Told.{IsToldAbove}
use Rattle.cjc_joint_whole.specs.Whole.{AreWholeWith, IsExport, from_outside, of_member}
use Rattle.cjc_joint_whole.proofs.WholeLaws.AboveSights.{seen_by}
use Rattle.cjc_joint_whole.proofs.WholeLaws.Members.{ordered_together}
use Rattle.cjc_joint_whole.proofs.WholeLaws.Shown.{where_at}
use Rattle.cjc_joint_whole.proofs.WholeLaws.Standing.{IsMetOpen, numbered_there, outside_open, own_open, shared_open}
use Rattle.cjc_joint_whole.proofs.WholeLaws.StandingInterfaces.{interface_open}

module _ {K : _} (members : List Member) (is : AreWholeWith K members) where
  abbrev group : List Files
  group = files_of members

  abbrev w : List Class
  w = joint_world group

  order : IsOrdered w
  order = ordered group (ordered_together members is)

  -- a method that is found among those
  pub exposed_seen : (x : List ℕ) (id : MemberId) (f : Found) (h : ResolvedMember) → find_exposed w x id ≡ Some f
      → method_hit w f ≡ Some h → is_package_visible h.flags ≡ false
  exposed_seen x id f h e told = by (first (own_where is_exposed id.name id.desc) (line w x)) refl e
    where
      same_hit : {a b : ResolvedMember} → Some a ≡ Some b → a ≡ b
      same_hit e = cc

      clash : false ≡ true → ⊥
      clash e = cc

      of : (u : Class) → class_named w u.name ≡ Some u → own_where is_exposed id.name id.desc u ≡ Some f
          → is_package_visible h.flags ≡ false
      of u named has =
          let b = where_at is_exposed id.name id.desc u f has in
          let m = b.method in
          let hit : h ≡ record { owner = u; flags = m.flags } = same_hit (sym told ∙ ap (method_hit w) b.is
          ∙ hit_is w u b.place m (numbered_there members is u.name u named) b.there) in
          ap (λ (y : ResolvedMember). is_package_visible y.flags) hit ∙ seen_by m.flags b.passing

      on_line : first (own_where is_exposed id.name id.desc) (line w x) ≡ Some f → is_package_visible h.flags ≡ false
      on_line found =
          let one = first_has (own_where is_exposed id.name id.desc) (line w x) f found in
          let on = of_line w order.acyclic x one.0 one.1 in
          of one.0 (line_named w x one.0 on) one.2

      in_interfaces : first (own_where is_exposed id.name id.desc) (known (gathered false (supertypes w (x ∷ []))))
          ≡ Some f → is_package_visible h.flags ≡ false
      in_interfaces found =
          let one = first_has (own_where is_exposed id.name id.desc) (known (gathered false (supertypes w (x ∷ [])))) f
          found in
          let above = gathered_above w order false (x ∷ []) (supertypes w (x ∷ [])) one.0 (supertypes-AreSupertypes w
          order.acyclic (x ∷ [])) (λ no. absurd (clash no)) one.1 in
          of one.0 above.3 one.2

      by : (o : Option Found) → first (own_where is_exposed id.name id.desc) (line w x) ≡ o → or_else o
          (first (own_where is_exposed id.name id.desc) (known (gathered false (supertypes w (x ∷ []))))) ≡ Some f
          → is_package_visible h.flags ≡ false
      by (Some g) found e = on_line (found ∙ e)
      by None found e = in_interfaces e

  module _ (tell : IsToldAbove members) (q : ℕ) (p : Member) (at : slice_get members q ≡ Some p) (id : MemberId)
      (initial : is_initialiser id.name ≡ false) (ordinary : is_constructor id.name ≡ false) (place : Found)
      (hit : ResolvedMember) (is_hit : method_hit (all_classes p.files) place ≡ Some hit)
      (opened : is_open hit.flags ≡ true) where
    abbrev v : List Class
    v = all_classes p.files

    of_export : (n : ℕ) (e : ExportClass) → (let f = p.files in slice_get (imports f.exports) n ≡ Some e)
        → class_named v e.name ≡ Some (imported n e) → own_method false id.name id.desc (imported n e) ≡ Some place
        → (a : IsAt false id.name id.desc (imported n e) place)
        → hit ≡ record { owner = imported n e; flags = (let x = a.member in x.flags) } → (u : ExportTree) (k : ℕ)
        → slice_get u.classes k ≡ Some e → IsExport members q u → IsMetOpen members id hit
    of_export n e file named own a told u k listed (of_member j g less there written) =
        ⊎_elim
        (λ it. interface_open members is tell q p at id ordinary place hit opened n e named a told it j g there u
        written k listed)
        (λ ground. shared_open members is q p at id initial ordinary place hit is_hit opened tell n e named a told ground
        j g there u written k listed)
        (true_or_false (is_interface e.flags))
    of_export n e file named own a told u k listed (from_outside j kept) =
        let all = flat_at (λ (y : ExportTree). y.classes) (joint_exports group) j k u e kept listed in
        outside_open members is q p at id initial ordinary place hit is_hit opened n e file named own a told all.0 all.1

    -- one that can be selected, of whichever class
    pub met_open : (d : Class) → class_named v d.name ≡ Some d → own_method false id.name id.desc d ≡ Some place
        → (a : IsAt false id.name id.desc d place)
        → hit ≡ record { owner = d; flags = (let x = a.member in x.flags) } → IsMetOpen members id hit
    met_open d named own a told = by (filed p.files d.name d named) named own a told
      where
        by : {d : Class} → IsFiled p.files d → class_named v d.name ≡ Some d
            → own_method false id.name id.desc d ≡ Some place → (a : IsAt false id.name id.desc d place)
            → hit ≡ record { owner = d; flags = (let x = a.member in x.flags) } → IsMetOpen members id hit
        by (in_class_file n o file) named own a told = own_open members is q p at id initial ordinary place hit is_hit
            opened n o file own a told
        by (in_export_file n e file) named own a told =
            let f = p.files in
            let of = of-imports e f.exports (get-has e (imports f.exports) n file) in
            let k = has-get of.0 f.exports of.1 in
            let listed = has-get e (let t = of.0 in t.classes) of.2 in
            of_export n e file named own a told of.0 listed.0 listed.1 (is.written q k.0 p of.0 at k.1)
