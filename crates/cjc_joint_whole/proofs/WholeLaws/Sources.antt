-- Public and protected methods that a package finds in a class of its world and that can be selected: the joint world has
-- each in the class of that name, or in a class or interface above it.
use Rattle.std.proofs.Common.{◌≡◌, ◌<◌, ◌+◌, ℕ, zero, suc, refl, sym, ap, subst, ◌∙◌, arith, true, false, List, Some}
use Rattle.std.proofs.Common.{inl, inr, ⊎_elim}
use Rattle.std.specs.Prelude.{◌⊎◌, option_map, slice_get}
use Rattle.std.proofs.lemmas.Option.{slice_get-map}
use Rattle.cjc_bytes.specs.AccessFlags.{is_abstract, is_interface}
use Rattle.cjc_bytes.proofs.Gets.{mapped_at}
use Rattle.cjc_components.specs.Class.{is_shareable}
use Rattle.cjc_components.specs.ExportFile.{export_class}
use Rattle.cjc_components.specs.Exports.{exported_classes}
use Rattle.cjc_components.specs.Package.{world}
use Rattle.cjc_jvm_semantics.specs.Group.{is_open, joint_exports}
use Rattle.cjc_jvm_semantics.specs.OnePackage.{is_constructor}
use Rattle.cjc_vtable.proofs.Filed.{IsFiled, filed, get-has, has-get, in_class_file, in_export_file, of-imports}
use Rattle.cjc_world.specs.Classes.{Class, Member as WorldMember, all_classes, class_named, declared, imported}
use Rattle.cjc_world.specs.Classes.{method_of_export}
use Rattle.cjc_world.specs.ExportFile.declared.tree.ExportClass.{ExportClass}
use Rattle.cjc_world.specs.ExportFile.declared.tree.ExportMethod.{ExportMethod}
use Rattle.cjc_world.specs.ExportFile.declared.tree.ExportTree.{ExportTree}
use Rattle.cjc_world.specs.Files.{Files}
use Rattle.cjc_world.specs.Upwards.{Below}
use Rattle.cjc_world.proofs.Cycles.{class_named-name}
use Rattle.cjc_world.proofs.UpwardLaws.Lines.{below_on}
use Rattle.cjc_shape_proof.proofs.WritingLaws.Flags.{interface_kept}
use Rattle.cjc_token_proof.proofs.WorldProofOwn as world_own
use Rattle.cjc_token_proof.specs.Subset.Members.{imports}
use Rattle.cjc_joint_proof.specs.Worlds.{AreApart, before}
use Rattle.cjc_joint_proof.proofs.AboveLaws.{above_stays, flat_at}
use Rattle.cjc_joint_proof.proofs.SoundLaws.{apart}
use Rattle.cjc_joint_proof.proofs.WorldLaws.{outside_is_found, own_is_found}
use Rattle.cjc_joint_theorem.specs.Members.{Member, files_of}
use Rattle.cjc_joint_theorem.specs.Together.Homes.{joint_world}
use Rattle.cjc_joint_theorem.proofs.MembersLaws.Worlds.{files_at}
use Rattle.cjc_joint_whole.specs.Told.{IsDeclaredAbove, IsOfKind, IsToldAbove}
use Rattle.cjc_joint_whole.specs.Whole.{AreWholeWith, IsExport, IsWrittenFor, from_outside, of_member}
use Rattle.cjc_joint_whole.proofs.WholeLaws.Exposed.{own_here}
use Rattle.cjc_joint_whole.proofs.WholeLaws.Imports.{imports_told}
use Rattle.cjc_joint_whole.proofs.WholeLaws.DeclaredAbove.{listed_are_above}
use Rattle.cjc_joint_whole.proofs.WholeLaws.OwnKept.{IsKeptBy, kept_at}

module _ {K : _} (members : List Member) (is : AreWholeWith K members) (tell : IsToldAbove members) where
  abbrev group : List Files
  group = files_of members

  abbrev w : List Class
  w = joint_world group

  are_apart : AreApart group
  are_apart = apart group is.sound

  -- what stands above a class in the world of a package stands above it in the joint world
  pub below_stays : (q : ℕ) (p : Member) → slice_get members q ≡ Some p → (x y : List ℕ) → Below (all_classes p.files) x y
      → Below w x y
  below_stays q p at x y way = ⊎_elim (λ same. inl same) (λ far. inr (above_stays group are_apart is.outside
      (imports_told members is) q p.files (files_at members q p at) x y far)) way

  -- A method of a class of a package's world, as the joint world has it.
  abbrev Source : (x : List ℕ) → WorldMember → Class → Type 0
  Source x m c = (d : IsDeclaredAbove w x m.name m.desc) × IsOfKind d m.flags (is_interface c.flags)

  module _ (q : ℕ) (p : Member) (at : slice_get members q ≡ Some p) (before_it : (j : ℕ) → j < q → (m : Member)
      → slice_get members j ≡ Some m → (y : List ℕ) (b : Class) → class_named (all_classes m.files) y ≡ Some b → (i : ℕ)
      (z : WorldMember) → slice_get b.methods i ≡ Some z → is_open z.flags ≡ true → is_constructor z.name ≡ false
      → Source y z b) where
    -- the entry of a package before
    of_written : (n : ℕ) (e : ExportClass) (i : ℕ) (y : ExportMethod) → slice_get e.methods i ≡ Some y → is_open y.flags
        ≡ true → is_constructor y.name ≡ false → (j : ℕ) (g : Member) → j < q → slice_get members j ≡ Some g
        → (t : ExportTree) → IsWrittenFor g.files t → (k : ℕ) → slice_get t.classes k ≡ Some e
        → Source e.name (method_of_export y) (imported n e)
    of_written n e i y there open_one ordinary j g less at_g t written k listed =
        let x = written.exporter in
        let r = mapped_at (export_class x) (exported_classes x) k e (sym (ap (λ (u : ExportTree). slice_get u.classes k)
        written.is) ∙ listed) in
        let kept = subst IsKeptBy (sym written.same_files) (kept_at members is j g at_g) in
        let s = listed_are_above x kept k i r.0 y r.1 (ap (λ (u : ExportClass). slice_get u.methods i) r.2 ∙ there) open_one ordinary in
        by r.0 r.2 s.0 s.1
      where
        by : (d : Class) → export_class written.exporter d ≡ e → (s : IsDeclaredAbove (world written.exporter) d.name
            y.name y.desc) → IsOfKind s y.flags (is_interface d.flags)
            → Source e.name (method_of_export y) (imported n e)
        by d is_d s kind =
            let same : (let o = written.exporter in o.files) ≡ g.files = written.same_files in
            let class = s.class in
            let method = s.method in
            let named : class_named (all_classes g.files) class.name ≡ Some class = subst (λ (f : Files). class_named
            (all_classes f) class.name ≡ Some class) same s.named in
            let below : Below (all_classes g.files) d.name class.name = subst (λ (f : Files). Below (all_classes f)
            d.name class.name) same s.below in
            let rest = before_it j less g at_g class.name class named s.place method s.there s.opened
            (ap is_constructor s.has_name ∙ ordinary) in
            let up = rest.0 in
            let is_e : d.name ≡ e.name = ap (λ (u : ExportClass). u.name) is_d in
            let kind_e : is_interface d.flags ≡ is_interface e.flags = sym (interface_kept d.flags
            (is_shareable (world written.exporter) d)) ∙ ap (λ (u : ExportClass). is_interface u.flags) is_d in
            let up_class = up.class in
            let up_method = up.method in
            let from : IsDeclaredAbove w e.name y.name y.desc = record {
              class = up.class;
              named = up.named;
              below = subst (λ a. Below w a up_class.name) is_e (below_on w d.name class.name up_class.name
                  (below_stays j g at_g d.name class.name below) up.below);
              place = up.place;
              method = up.method;
              there = up.there;
              has_name = up.has_name ∙ s.has_name;
              has_desc = up.has_desc ∙ s.has_desc;
              opened = up.opened;
            } in
            let its_kind : ((up_method.flags ≡ y.flags) × (is_interface up_class.flags ≡ is_interface e.flags))
            ⊎ ((is_interface up_class.flags ≡ true) × (is_abstract y.flags ≡ true)) =
            ⊎_elim
            (λ one. ⊎_elim
            (λ more. inl (more.0 ∙ one.0, more.1 ∙ one.1 ∙ kind_e))
            (λ more. inr (more.0, ap is_abstract (sym one.0) ∙ more.1))
            rest.1)
            (λ one. ⊎_elim
            (λ more. inr (more.1 ∙ one.0, one.1))
            (λ more. inr (more.0, one.1))
            rest.1)
            kind in
            (from, its_kind)

    of_export : (n : ℕ) (e : ExportClass) (i : ℕ) (y : ExportMethod) → slice_get e.methods i ≡ Some y → is_open y.flags
        ≡ true → is_constructor y.name ≡ false → (t : ExportTree) (k : ℕ) → slice_get t.classes k ≡ Some e
        → IsExport members q t → Source e.name (method_of_export y) (imported n e)
    of_export n e i y there open_one ordinary t k listed (of_member j g less at_g written) =
        of_written n e i y there open_one ordinary j g less at_g t written k listed
    of_export n e i y there open_one ordinary t k listed (from_outside r kept) =
        let all = flat_at (λ (u : ExportTree). u.classes) (joint_exports group) r k t e kept listed in
        let from : IsDeclaredAbove w e.name y.name y.desc = record {
          class = imported all.0 e;
          named = outside_is_found group are_apart is.outside all.0 e all.1;
          below = inl refl;
          place = i;
          method = method_of_export y;
          there = slice_get-map method_of_export e.methods i ∙ ap (option_map method_of_export) there;
          has_name = refl;
          has_desc = refl;
          opened = open_one;
        } in
        (from, inl (refl, refl))

    step : (x : List ℕ) (c : Class) → class_named (all_classes p.files) x ≡ Some c → (i : ℕ) (m : WorldMember)
        → slice_get c.methods i ≡ Some m → is_open m.flags ≡ true → is_constructor m.name ≡ false → Source x m c
    step x c named i m there open_one ordinary = by c (filed p.files x c named) named there
      where
        by : (c : Class) → IsFiled p.files c → class_named (all_classes p.files) x ≡ Some c → slice_get c.methods i
            ≡ Some m → Source x m c
        by _ (in_class_file n t file) named there =
            let name : t.name ≡ x = class_named-name (all_classes p.files) x (declared n t) named in
            let from : IsDeclaredAbove w x m.name m.desc = record {
              class = declared (before group q + n) t;
              named = own_is_found group are_apart q n p.files t (own_here members is q p at n t file);
              below = inl (sym name);
              place = i;
              method = m;
              there = there;
              has_name = refl;
              has_desc = refl;
              opened = open_one;
            } in
            (from, inl (refl, refl))
        by _ (in_export_file n e file) named there =
            let name : e.name ≡ x = class_named-name (all_classes p.files) x (imported n e) named in
            let y = world_own.mapped_at method_of_export e.methods i m there in
            let f = p.files in
            let of = of-imports e f.exports (get-has e (imports f.exports) n file) in
            let k = has-get of.0 f.exports of.1 in
            let place = has-get e (let u = of.0 in u.classes) of.2 in
            let s = of_export n e i y.0 y.1 (ap (λ (z : WorldMember). is_open z.flags) (sym y.2) ∙ open_one)
            (ap (λ (z : WorldMember). is_constructor z.name) (sym y.2) ∙ ordinary) of.0 place.0 place.1
            (is.written q k.0 p of.0 at k.1) in
            subst (λ (z : WorldMember). Source x z (imported n e)) (sym y.2) (subst (λ a. Source a (method_of_export y.0)
            (imported n e)) name s)

  go_on : (n q : ℕ) → q < n → (p : Member) → slice_get members q ≡ Some p → (x : List ℕ) (c : Class)
      → class_named (all_classes p.files) x ≡ Some c → (i : ℕ) (m : WorldMember) → slice_get c.methods i ≡ Some m
      → is_open m.flags ≡ true → is_constructor m.name ≡ false → Source x m c
  go_on zero q lt p at x c named = absurd (omega (arith, lt))
  go_on (suc n) q lt p at x c named = step q p at (λ j less m there y b e. go_on n j (omega (arith, lt, less)) m there y b
      e) x c named

  pub source : (q : ℕ) (p : Member) → slice_get members q ≡ Some p → (x : List ℕ) (c : Class)
      → class_named (all_classes p.files) x ≡ Some c → (i : ℕ) (m : WorldMember) → slice_get c.methods i ≡ Some m
      → is_open m.flags ≡ true → is_constructor m.name ≡ false → (d : IsDeclaredAbove w x m.name m.desc)
      × IsOfKind d m.flags (is_interface c.flags)
  source q p at x c named = go_on (suc q) q (omega arith) p at x c named
