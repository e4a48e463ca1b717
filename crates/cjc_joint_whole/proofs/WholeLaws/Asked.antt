-- A public or protected method that an interface of the joint world declares stands above each class and interface below
-- it in the world of its package too: in that interface, or in an entry of an export file on the way.
use Rattle.std.proofs.Common.{◌≡◌, ◌<◌, ◌+◌, ℕ, zero, suc, refl, sym, ap, subst, ◌∙◌, arith, true, false, List, [], ◌∷◌}
use Rattle.std.proofs.Common.{◌++◌, Some, inl, inr, ⊎_elim}
use Rattle.std.specs.Prelude.{option_map, slice_get}
use Rattle.std.proofs.lemmas.Option.{slice_get-map}
use Rattle.cjc_bytes.specs.AccessFlags.{is_interface}
use Rattle.cjc_bytes.proofs.Bools.{true_not_false, true_or_false}
use Rattle.cjc_bytes.proofs.Gets.{mapped_at}
use Rattle.cjc_components.specs.ExportFile.{export_class}
use Rattle.cjc_components.specs.Exports.{exported_classes}
use Rattle.cjc_components.specs.Package.{world}
use Rattle.cjc_components.specs.Class.{is_shareable}
use Rattle.cjc_jvm_semantics.specs.Group.{is_open, joint_exports}
use Rattle.cjc_jvm_semantics.specs.OnePackage.{is_constructor}
use Rattle.cjc_vtable.proofs.Filed.{IsFiled, filed, get-has, has-get, in_class_file, in_export_file, of-imports}
use Rattle.cjc_world.specs.ClassFile.declared.tree.ClassTree.{ClassTree}
use Rattle.cjc_world.specs.Classes.{Class, Member as WorldMember, all_classes, class_named, declared, imported}
use Rattle.cjc_world.specs.Classes.{method_of_export}
use Rattle.cjc_world.specs.ExportFile.declared.tree.ExportClass.{ExportClass}
use Rattle.cjc_world.specs.ExportFile.declared.tree.ExportTree.{ExportTree}
use Rattle.cjc_world.specs.Files.{Files}
use Rattle.cjc_world.specs.Lookup.{object}
use Rattle.cjc_world.specs.Supertypes.{Above, Lists, directly, onwards}
use Rattle.cjc_world.specs.Upwards.{Below, IsOrdered}
use Rattle.cjc_world.proofs.Cycles.{above-class, class_named-name}
use Rattle.cjc_world.proofs.Trees.{lists-split}
use Rattle.cjc_world.proofs.UpwardLaws.Lines.{listed_below}
use Rattle.cjc_shape_proof.proofs.WritingLaws.Flags.{interface_kept}
use Rattle.cjc_token_proof.specs.Subset.Members.{imports}
use Rattle.cjc_joint_proof.specs.Worlds.{AreApart, IsOwn, before}
use Rattle.cjc_joint_proof.proofs.AboveLaws.{flat_at}
use Rattle.cjc_joint_proof.proofs.SoundLaws.{apart}
use Rattle.cjc_joint_proof.proofs.WorldLaws.{own_is_found}
use Rattle.cjc_joint_theorem.specs.Members.{Member, files_of}
use Rattle.cjc_joint_theorem.specs.Together.Homes.{joint_world}
use Rattle.cjc_joint_theorem.proofs.OrderedLaws.Ordered.{IsJoint, interface_there, joint_class, object_abroad}
use Rattle.cjc_joint_theorem.proofs.OrderedLaws.Ordered.{outside_file, own_file, super_there}
use Rattle.cjc_joint_whole.specs.Told.{HasOpenEntry, HasOpenMethod, IsDeclaredAbove, IsToldAbove}
use Rattle.cjc_joint_whole.specs.Whole.{AreWholeWith, IsExport, IsWrittenFor, from_outside, of_member}
use Rattle.cjc_joint_whole.proofs.WholeLaws.AboveListed.{above_are_listed}
use Rattle.cjc_joint_whole.proofs.WholeLaws.Exposed.{named_here, own_here}
use Rattle.cjc_joint_whole.proofs.WholeLaws.Imports.{exported}
use Rattle.cjc_joint_whole.proofs.WholeLaws.Members.{ordered_together}
use Rattle.cjc_joint_whole.proofs.WholeLaws.OwnKept.{IsKeptBy, kept_at}
use Rattle.cjc_joint_whole.proofs.WholeLaws.Shown.{open_parts}
use Rattle.cjc_joint_whole.proofs.WholeLaws.Solid.{solid_at}
use Rattle.cjc_joint_whole.proofs.WholeLaws.ToldOutside.{lists_above}

same_class : {c d : Class} → Some c ≡ Some d → c ≡ d
same_class e = cc

module _ {K : _} (members : List Member) (is : AreWholeWith K members) (tell : IsToldAbove members) where
  abbrev group : List Files
  group = files_of members

  abbrev w : List Class
  w = joint_world group

  are_apart : AreApart group
  are_apart = apart group is.sound

  module _ (z : Class) (named_z : class_named w z.name ≡ Some z) (it : is_interface z.flags ≡ true) (i : ℕ)
      (m : WorldMember) (there : slice_get z.methods i ≡ Some m) (open_one : is_open m.flags ≡ true)
      (ordinary : is_constructor m.name ≡ false) where
    -- Such a method stands above a class in the world of a package, of an interface in an interface.
    abbrev SeenIn : Files → List ℕ → (flags : ℕ) → Type 0
    SeenIn f x flags = (d : IsDeclaredAbove (all_classes f) x m.name m.desc) × (is_interface flags ≡ true
        → (let y = d.class in is_interface y.flags) ≡ true)

    -- java/lang/Object is from outside, and lists what an interface above it has
    pub of_root : Below w object z.name → (o : Class) × (class_named w object ≡ Some o) × HasOpenMethod o m.name m.desc
    of_root way =
        let r = root in
        by r.0 r.1 (joint_class group object r.0 r.1) (object_abroad group (ordered_together members is) r.0 r.1)
      where
        root : (o : Class) × (class_named w object ≡ Some o)
        root = ⊎_elim (λ same. (z, ap (class_named w) same ∙ named_z)) (λ far. above-class w object z.name far) way

        by : (o : Class) → class_named w object ≡ Some o → IsJoint group o → o.is_imported ≡ true
            → (o : Class) × (class_named w object ≡ Some o) × HasOpenMethod o m.name m.desc
        by _ named (own_file q k p t own) imp = absurd cc
        by _ named (outside_file k e kept) imp =
            let name : e.name ≡ object = class_named-name w object (imported k e) named in
            let h = lists_above members is tell.asked k i e z m kept named_z it (subst (λ a. Below w a z.name) (sym name)
            way) there open_one in (
              imported k e,
              named,
              record {
                place = h.place;
                method = method_of_export h.entry;
                there = slice_get-map method_of_export e.methods h.place ∙ ap (option_map method_of_export) h.there;
                has_name = h.has_name;
                has_desc = h.has_desc;
                opened = h.opened;
              },
            )

    -- so an interface of a package that is below one through java/lang/Object has one itself
    has_itself : (c : Class) → class_named w c.name ≡ Some c → c.is_imported ≡ false → is_interface c.flags ≡ true
        → Above w c.name z.name → Below w object z.name → HasOpenMethod c m.name m.desc
    has_itself c named own face far way =
        let r = of_root way in
        let o = r.2 in
        let y = o.method in
        tell.objects c z r.0 i o.place m y named own face named_z it far there open_one r.1 o.there (open_parts y.flags
        o.opened).1 o.has_name o.has_desc

    module _ (q : ℕ) (p : Member) (at : slice_get members q ≡ Some p) (before_it : (j : ℕ) → j < q → (g : Member)
        → slice_get members j ≡ Some g → (x : List ℕ) (c : Class) → class_named (all_classes g.files) x ≡ Some c
        → Below w x z.name → SeenIn g.files x c.flags) where
      abbrev v : List Class
      v = all_classes p.files

      order : IsOrdered v
      order = let s = solid_at members is q p at in s.ordered

      -- an entry of an export file
      of_entry : (n : ℕ) (e : ExportClass) → class_named v e.name ≡ Some (imported n e) → HasOpenEntry e.methods m.name
          m.desc → SeenIn p.files e.name e.flags
      of_entry n e named h =
          let from : IsDeclaredAbove v e.name m.name m.desc = record {
            class = imported n e;
            named = named;
            below = inl refl;
            place = h.place;
            method = method_of_export h.entry;
            there = slice_get-map method_of_export e.methods h.place ∙ ap (option_map method_of_export) h.there;
            has_name = h.has_name;
            has_desc = h.has_desc;
            opened = h.opened;
          } in
          (from, λ f. f)

      -- what is written for a package before lists it
      of_written : (e : ExportClass) → Below w e.name z.name → (j : ℕ) (g : Member) → j < q → slice_get members j
          ≡ Some g → (t : ExportTree) → IsWrittenFor g.files t → (k : ℕ) → slice_get t.classes k ≡ Some e
          → HasOpenEntry e.methods m.name m.desc
      of_written e way j g less at_g t written k listed =
          let x = written.exporter in
          let r = mapped_at (export_class x) (exported_classes x) k e (sym (ap (λ (u : ExportTree). slice_get u.classes
          k) written.is) ∙ listed) in
          let o = exported g.files t written k e listed in
          let tree = o.class in
          let kinds = o.kind in
          let seen = before_it j less g at_g tree.name (declared o.number tree) (named_here members is j g at_g o.number
          tree o.file) (subst (λ a. Below w a z.name) (sym o.same_name) way) in
          let kept = subst IsKeptBy (sym written.same_files) (kept_at members is j g at_g) in
          let told = above_are_listed x kept in
          let d = r.0 in
          let name : tree.name ≡ d.name = o.same_name ∙ sym (ap (λ (u : ExportClass). u.name) r.2) in
          let kind : is_interface d.flags ≡ is_interface tree.flags = sym (interface_kept d.flags
          (is_shareable (world x) d)) ∙ ap (λ (u : ExportClass). is_interface u.flags) r.2 ∙ sym kinds.interface in
          let moved : SeenIn x.files d.name tree.flags = subst (λ (f : Files). SeenIn f d.name tree.flags)
          (sym written.same_files) (subst (λ a. SeenIn g.files a tree.flags) name seen) in
          let h = told k d m.name m.desc r.1 ordinary moved.0 (λ f. moved.1 (sym kind ∙ f)) in
          subst (λ (u : ExportClass). HasOpenEntry u.methods m.name m.desc) r.2 h

      of_export : (n : ℕ) (e : ExportClass) → class_named v e.name ≡ Some (imported n e) → Below w e.name z.name
          → (t : ExportTree) (k : ℕ) → slice_get t.classes k ≡ Some e → IsExport members q t
          → SeenIn p.files e.name e.flags
      of_export n e named way t k listed (of_member j g less at_g written) =
          of_entry n e named (of_written e way j g less at_g t written k listed)
      of_export n e named way t k listed (from_outside r kept) =
          let all = flat_at (λ (u : ExportTree). u.classes) (joint_exports group) r k t e kept listed in
          of_entry n e named (lists_above members is tell.asked all.0 i e z m all.1 named_z it way there open_one)

      of_import : (n : ℕ) (e : ExportClass) → (let f = p.files in slice_get (imports f.exports) n ≡ Some e)
          → (x : List ℕ) → class_named v x ≡ Some (imported n e) → Below w x z.name → SeenIn p.files x e.flags
      of_import n e file x named way =
          let name : e.name ≡ x = class_named-name v x (imported n e) named in
          let f = p.files in
          let of = of-imports e f.exports (get-has e (imports f.exports) n file) in
          let k = has-get of.0 f.exports of.1 in
          let place = has-get e (let u = of.0 in u.classes) of.2 in
          subst (λ a. SeenIn p.files a e.flags) name (of_export n e (ap (class_named v) name ∙ named)
          (subst (λ a. Below w a z.name) (sym name) way) of.0 place.0 place.1 (is.written q k.0 p of.0 at k.1))

      -- the interface itself
      of_itself : (x : List ℕ) (c : Class) → class_named v x ≡ Some c → x ≡ z.name → SeenIn p.files x c.flags
      of_itself x c named same = by c (filed p.files x c named) named
        where
          by : (c : Class) → IsFiled p.files c → class_named v x ≡ Some c → SeenIn p.files x c.flags
          by _ (in_class_file n t file) named =
              let name : t.name ≡ x = class_named-name v x (declared n t) named in
              let one : z ≡ declared (before group q + n) t = same_class (sym named_z ∙ ap (class_named w) (sym same
              ∙ sym name) ∙ own_is_found group are_apart q n p.files t (own_here members is q p at n t file)) in
              let from : IsDeclaredAbove v x m.name m.desc = record {
                class = declared n t;
                named = ap (class_named v) name ∙ named;
                below = inl (sym name);
                place = i;
                method = m;
                there = ap (λ (c : Class). slice_get c.methods i) (sym one) ∙ there;
                has_name = refl;
                has_desc = refl;
                opened = open_one;
              } in
              (from, λ f. f)
          by _ (in_export_file n e file) named = of_import n e file x named (inl same)

      -- ---- above a class file

      module _ (n : ℕ) (t : ClassTree) (file : (let f = p.files in slice_get f.classes n ≡ Some t)) (x : List ℕ)
          (named : class_named v x ≡ Some (declared n t)) where
        mine : IsOwn group q n p.files t
        mine = own_here members is q p at n t file

        name : t.name ≡ x
        name = class_named-name v x (declared n t) named

        in_joint : class_named w x ≡ Some (declared (before group q + n) t)
        in_joint = ap (class_named w) (sym name) ∙ own_is_found group are_apart q n p.files t mine

        -- over a name that it lists
        over : (s : List ℕ) → Lists s (t.superclass ∷ t.interfaces) → Below w s z.name → ((d : Class)
            → class_named v s ≡ Some d → SeenIn p.files s d.flags) → SeenIn p.files x t.flags
        over s l way next = ⊎_elim of_super of_interface (lists-split s (t.superclass ∷ []) t.interfaces l)
          where
            lifted : (d : Class) → class_named v s ≡ Some d → SeenIn p.files s d.flags → (is_interface t.flags ≡ true
                → is_interface d.flags ≡ true) → SeenIn p.files x t.flags
            lifted d at_d seen up =
                let a = seen.0 in
                let from : IsDeclaredAbove v x m.name m.desc = record {
                  class = a.class;
                  named = a.named;
                  below = listed_below v x s (let c = a.class in c.name) (declared n t) named l a.below;
                  place = a.place;
                  method = a.method;
                  there = a.there;
                  has_name = a.has_name;
                  has_desc = a.has_desc;
                  opened = a.opened;
                } in
                (from, λ f. seen.1 (up f))

            of_super : Lists s (t.superclass ∷ []) → SeenIn p.files x t.flags
            of_super k =
                let d = super_there group (ordered_together members is) q n p.files t mine s k in
                ⊎_elim (λ f. by_itself k f) (λ flat. lifted d.0 d.1 (next d.0 d.1) (λ f. absurd (true_not_false
                (is_interface t.flags) f flat))) (true_or_false (is_interface t.flags))
              where
                by_itself : Lists s (t.superclass ∷ []) → is_interface t.flags ≡ true → SeenIn p.files x t.flags
                by_itself k f =
                    let root : s ≡ object = order.only_object x s (declared n t) named f k in
                    let c = declared (before group q + n) t in
                    let at_c : class_named w t.name ≡ Some c = ap (class_named w) name ∙ in_joint in
                    let far : Above w t.name z.name = ⊎_elim (λ same. directly c at_c (subst (λ y. Lists y (t.superclass
                    ∷ t.interfaces)) same l)) (λ more. onwards c at_c l more) way in
                    let r = has_itself c at_c refl f far (subst (λ y. Below w y z.name) root way) in
                    let from : IsDeclaredAbove v x m.name m.desc = record {
                      class = declared n t;
                      named = ap (class_named v) name ∙ named;
                      below = inl (sym name);
                      place = r.place;
                      method = r.method;
                      there = r.there;
                      has_name = r.has_name;
                      has_desc = r.has_desc;
                      opened = r.opened;
                    } in
                    (from, λ g. f)

            of_interface : Lists s t.interfaces → SeenIn p.files x t.flags
            of_interface k =
                let d = interface_there group (ordered_together members is) q n p.files t mine s k in
                lifted d.0 d.1 (next d.0 d.1) (λ f. order.interfaces x s (declared n t) d.0 named k d.1)

      go : (x y : List ℕ) → Above w x y → y ≡ z.name → (c : Class) → class_named v x ≡ Some c
          → SeenIn p.files x c.flags
      go x y (directly b e l) same c named = by c (filed p.files x c named) named
        where
          by : (c : Class) → IsFiled p.files c → class_named v x ≡ Some c → SeenIn p.files x c.flags
          by _ (in_class_file n t file) named =
              let one : b ≡ declared (before group q + n) t = same_class (sym e ∙ in_joint n t file x named) in
              over n t file x named y (subst (λ (c : Class). Lists y (c.supers ++ c.interfaces)) one l) (inl same)
              (λ d at_d. of_itself y d at_d same)
          by _ (in_export_file n u file) named = of_import n u file x named (inr (subst (Above w x) same
              (directly b e l)))
      go x y (onwards {y = s} b e l rest) same c named = by c (filed p.files x c named) named
          (λ d at_d. go s y rest same d at_d)
        where
          by : (c : Class) → IsFiled p.files c → class_named v x ≡ Some c → ((d : Class) → class_named v s ≡ Some d
              → SeenIn p.files s d.flags) → SeenIn p.files x c.flags
          by _ (in_class_file n t file) named next =
              let one : b ≡ declared (before group q + n) t = same_class (sym e ∙ in_joint n t file x named) in
              over n t file x named s (subst (λ (c : Class). Lists s (c.supers ++ c.interfaces)) one l)
              (inr (subst (Above w s) same rest)) next
          by _ (in_export_file n u file) named next = of_import n u file x named (inr (subst (Above w x) same
              (onwards b e l rest)))

      step : (x : List ℕ) (c : Class) → class_named v x ≡ Some c → Below w x z.name → SeenIn p.files x c.flags
      step x c named way = ⊎_elim (λ same. of_itself x c named same) (λ far. go x z.name far refl c named) way

    go_on : (n q : ℕ) → q < n → (p : Member) → slice_get members q ≡ Some p → (x : List ℕ) (c : Class)
        → class_named (all_classes p.files) x ≡ Some c → Below w x z.name → SeenIn p.files x c.flags
    go_on zero q lt p at x c named way = absurd (omega (arith, lt))
    go_on (suc n) q lt p at x c named way = step q p at (λ j less g there y b e far. go_on n j (omega (
      arith,
      lt,
      less,
    )) g there y b e far) x c named way

    pub seen_above : (q : ℕ) (p : Member) → slice_get members q ≡ Some p → (x : List ℕ) (c : Class)
        → class_named (all_classes p.files) x ≡ Some c → Below w x z.name
        → IsDeclaredAbove (all_classes p.files) x m.name m.desc
    seen_above q p at x c named way = let s = go_on (suc q) q (omega arith) p at x c named way in s.0
