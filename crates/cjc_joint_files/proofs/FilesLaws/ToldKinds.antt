-- Where a class from outside or one above it lists a method that can be selected, the nearest public or protected one
-- of its name and descriptor in the joint world can be, too: it is the nearest one that a package knows which imports
-- the class, since export files list public and protected methods alone, and that package knows all that stands above.
use Rattle.std.proofs.Common.{◌≡◌, ℕ, zero, suc, ◌+◌, refl, sym, ap, subst, ◌∙◌, Bool, true, false, List, [], ◌∷◌}
use Rattle.std.proofs.Common.{length, Option, Some, ⊎_elim}
use Rattle.std.specs.Prelude.{◌&&◌, ◌||◌, option_map, position, slice_get, if◌then◌else◌}
use Rattle.cjc_bytes.specs.AccessFlags.{is_interface}
use Rattle.cjc_bytes.proofs.Gets.{mapped_at}
use Rattle.cjc_components.specs.Package.{Package, world}
use Rattle.cjc_joint_proof.specs.JointPackages.{files_together}
use Rattle.cjc_joint_proof.specs.JointTables.{world_together}
use Rattle.cjc_joint_proof.specs.Worlds.{AreApart, outside_classes}
use Rattle.cjc_joint_proof.proofs.ClassLaws.{together_at}
use Rattle.cjc_joint_proof.proofs.WorldLaws.{outside_is_found}
use Rattle.cjc_joint_theorem.proofs.OrderedLaws.Ordered.{IsJoint, joint_class, ordered, outside_file, own_file}
use Rattle.cjc_joint_theorem.proofs.OrderedLaws.Standing.{are_apart, outside_in}
use Rattle.cjc_joint_whole.specs.Selected.{SelectTogether}
use Rattle.cjc_joint_whole.specs.Told.{OutsideKeepsKinds}
use Rattle.cjc_joint_whole.proofs.WholeLaws.OutsideLines.{line_methods}
use Rattle.cjc_joint_whole.proofs.WholeLaws.Shown.{open_parts}
use Rattle.cjc_jvm_semantics.specs.Group.{is_exposed, is_open, joint, own_where}
use Rattle.cjc_jvm_semantics.specs.OnePackage.{ResolvedMember, is_constructor, is_initialiser, method_hit}
use Rattle.cjc_theorem.proofs.AlikeLaws.VirtualCalls.Chosen.{first_found, has_methods, wanted}
use Rattle.cjc_theorem.proofs.AlikeLaws.VirtualCalls.MethodKinds.{in_get}
use Rattle.cjc_theorem.proofs.AlikeLaws.VirtualCalls.Places.{member_in}
use Rattle.cjc_token_proof.proofs.WorldProofOwn.{hit_is, is_found}
use Rattle.cjc_token_proof.proofs.WorldProofSelects.{called_by}
use Rattle.cjc_tokens.proofs.Facts.{position-cons}
use Rattle.cjc_tokens.specs.Members.{In, Signature, all_methods, chosen, signature_of}
use Rattle.cjc_vtable.proofs.Filed.{at-number}
use Rattle.cjc_vtable.proofs.Given.{In-split}
use Rattle.cjc_world.specs.Classes.{Class, Member, all_classes, class_named, imported, method_of_export}
use Rattle.cjc_world.specs.ExportFile.declared.tree.ExportClass.{ExportClass}
use Rattle.cjc_world.specs.Files.{Files}
use Rattle.cjc_world.specs.Lookup.{first, is_called, is_selectable, member_at, or_else, own_method}
use Rattle.cjc_world.specs.Supertypes.{line}
use Rattle.cjc_world.specs.Upwards.{Has, IsOrdered, OnLine, after, foremost}
use Rattle.cjc_world.specs.declared.found.Found.{Found}
use Rattle.cjc_world.proofs.UpwardLaws.Lines.{below_abroad, first_some, in_line, line_below, line_named, of_line}
use Rattle.cjc_joint_files.specs.Fair.{AreFairTogether}
use Rattle.cjc_joint_files.proofs.FilesLaws.ToldPackages.{package_at}

-- ---- lists

-- two tests that agree on each find the same first
same_position : {A : Type 0} (p q : A → Bool) (xs : List A) → ((i : ℕ) (x : A) → slice_get xs i ≡ Some x → p x ≡ q x)
    → position p xs ≡ position q xs
same_position p q [] same = refl
same_position p q (x ∷ xs) same = position-cons p x xs ∙ by (p x) (q x) (same 0 x refl) (same_position p q xs (λ i y at.
    same (suc i) y at)) ∙ sym (position-cons q x xs)
  where
    by : (a b : Bool) → a ≡ b → position p xs ≡ position q xs
        → (if a then Some 0 else option_map suc (position p xs)) ≡ (if b then Some 0 else option_map suc (position q
        xs))
    by true true e rest = refl
    by true false e rest = absurd cc
    by false true e rest = absurd cc
    by false false e rest = ap (option_map suc) rest

-- two searches that agree on each class
same_first : (p q : Class → Option Found) (cs : List Class) → ((c : Class) → Has c cs → p c ≡ q c)
    → first p cs ≡ first q cs
unfolding first
same_first p q [] same = refl
same_first p q (c ∷ cs) same = ap (λ o. or_else o (first p cs)) (same c foremost) ∙ ap (or_else (q c)) (same_first p q
    cs
    (λ d h. same d (after h)))

-- a method of all is one of some class
of_classes : (cs : List Class) (m : Member) → In m (all_methods cs) → (c : Class) × Has c cs × In m c.methods
of_classes [] m i = elim i [ ]
of_classes (c ∷ cs) m i = ⊎_elim (λ j. (c, foremost, j)) (λ j. let r = of_classes cs m j in (r.0, after r.1, r.2))
    (In-split m c.methods (all_methods cs) i)

same_hit : {a b : ResolvedMember} → Some a ≡ Some b → a ≡ b
same_hit e = cc

same_member : {a b : Member} → Some a ≡ Some b → a ≡ b
same_member e = cc

neither : (a b : Bool) → a ≡ false → b ≡ false → (a || b) ≡ false
neither false false e f = refl
neither true b e f = absurd cc
neither false true e f = absurd cc

module _ (packages : List Package) (is : SelectTogether packages) (fair : AreFairTogether packages) where
  abbrev group : List Files
  group = files_together packages

  abbrev w : List Class
  w = world_together packages

  order : IsOrdered w
  order = ordered group is.ordered

  apart : AreApart group
  apart = are_apart group is.ordered

  -- a class from outside lists public and protected methods alone
  outside_exposed : (x : List ℕ) (c : Class) → class_named w x ≡ Some c → c.is_imported ≡ true → (i : ℕ) (m : Member)
      → slice_get c.methods i ≡ Some m → is_exposed m.flags ≡ true
  outside_exposed x c named imp i m there = by c (joint_class group x c named) imp there
    where
      by : (c : Class) → IsJoint group c → c.is_imported ≡ true → slice_get c.methods i ≡ Some m
          → is_exposed m.flags ≡ true
      by _ (own_file q k p t own) imp there = absurd cc
      by _ (outside_file n e kept) imp there =
          let y = mapped_at method_of_export e.methods i m there in
          ap (λ (u : Member). is_exposed u.flags) (sym y.2) ∙ fair.exposed n i e y.0 kept y.1

  module _ (k i : ℕ) (e : ExportClass) (d : Class) (n : Member) (f : Found) (h : ResolvedMember)
      (kept : slice_get (outside_classes group) k ≡ Some e) (ground : is_interface e.flags ≡ false)
      (on : OnLine w e.name d) (there : slice_get d.methods i ≡ Some n) (opened : is_open n.flags ≡ true)
      (ordinary : is_constructor n.name ≡ false) (initial : is_initialiser n.name ≡ false)
      (found : first (own_where is_exposed n.name n.desc) (line w e.name) ≡ Some f)
      (is_h : method_hit w f ≡ Some h) where
    abbrev s : Signature
    s = signature_of n

    abbrev any : Class → Option Found
    any = own_method false n.name n.desc

    abbrev exposed : Class → Option Found
    exposed = own_where is_exposed n.name n.desc

    at_e : class_named w e.name ≡ Some (imported k e)
    at_e = outside_is_found group apart fair.outside k e kept

    selectable : is_selectable n.flags ≡ true
    selectable = let parts = open_parts n.flags opened in parts.0

    -- so what is found is the first of its name and descriptor there
    any_is : (c : Class) → Has c (line w e.name) → any c ≡ exposed c
    unfolding own_method
    any_is c has =
        let low = of_line w order.acyclic e.name c has in
        let named = line_named w e.name c low in
        let imp = below_abroad w order e.name c.name (imported k e) c (line_below w e.name c low) at_e refl named in
        ap (option_map (λ j. member_at c (length c.fields + j)))
        (same_position (λ (m : Member). is_called n.name n.desc m) (λ (m : Member). is_exposed m.flags && is_called
        n.name n.desc m) c.methods (λ j m at. sym (ap (λ b. b && is_called n.name n.desc m) (outside_exposed c.name c
        named imp j m at))))

    any_found : first any (line w e.name) ≡ Some f
    any_found = same_first any exposed (line w e.name) any_is ∙ found

    -- a package that imports the class
    record IsImporter : Type 0 where
      part : ℕ
      importer : Package
      here : slice_get packages part ≡ Some importer
      place : ℕ
      named : class_named (world importer) e.name ≡ Some (imported place e)

    importer_is : IsImporter
    importer_is =
        let o = outside_in group is.ordered k e kept in
        let x = package_at packages o.number o.files o.member in
        record {
          part = o.number;
          importer = x.0;
          here = x.1;
          place = o.place;
          named = subst (λ (g : Files). class_named (all_classes g) e.name ≡ Some (imported o.place e)) (sym x.2)
              o.named;
        }

    own_any : (b : Class) → In n b.methods → (g : Found) × (any b ≡ Some g)
    unfolding own_method
    own_any b has =
        let at = in_get n b.methods has in
        let r = is_found (λ (m : Member). is_called n.name n.desc m) b.methods at.0 n at.1 (called_by n.name n.desc n
        refl refl) in
        (member_at b (length b.fields + r.0), ap (option_map (λ j. member_at b (length b.fields + j))) r.1)

    of_package : (x : IsImporter) (m : Member) → chosen (wanted false) s (all_methods (line w e.name)) ≡ Some m
        → is_selectable m.flags ≡ true
    of_package x m first_one =
        let p = x.importer in
        let files_p = together_at packages is.linked x.part p x.here in
        let order_p = (let o = is.ordered in o.each) x.part p.files files_p in
        let same = line_methods packages is x.part p x.here e.name (imported x.place e) (imported k e) x.named at_e
        refl in
        let its = subst (In n) (sym same) (has_methods d (line w e.name) n (in_line w order.acyclic e.name d on)
        (member_in d.methods i n there)) in
        let of = of_classes (line (world p) e.name) n its in
        let b = of.0 in
        let own = own_any b of.2 in
        let g = first_some any (line (world p) e.name) b own.0 of.1 own.1 in
        let r = first_found false s (line (world p) e.name) g.0 g.1 in
        let c = r.class in
        let a = r.at in
        let y = a.method in
        let low = of_line (world p) order_p.acyclic e.name c r.among in
        let is_m : y ≡ m = same_member (sym r.of_all ∙ ap (chosen (wanted false) s) same ∙ first_one) in
        let hit : method_hit (world p) g.0 ≡ Some (record { owner = c; flags = y.flags }) = ap (method_hit (world p))
        a.is ∙ hit_is (world p) c a.place y (at-number p.files c.name c (line_named (world p) e.name c low)) a.there in
        ap (λ (u : Member). is_selectable u.flags) (sym is_m) ∙ fair.kinds x.part p x.here e.name (imported x.place e)
        b n s g.0 (record { owner = c; flags = y.flags }) x.named refl ground (neither (is_constructor n.name)
        (is_initialiser n.name) ordinary initial) (of_line (world p) order_p.acyclic e.name b of.1) of.2 refl
        selectable g.1 hit

    kinds_kept : is_selectable h.flags ≡ true
    kinds_kept =
        let r = first_found false s (line w e.name) f any_found in
        let c = r.class in
        let a = r.at in
        let m = a.method in
        let low = of_line w order.acyclic e.name c r.among in
        let hit : h ≡ record { owner = c; flags = m.flags } = same_hit (sym is_h ∙ ap (method_hit w) a.is ∙ hit_is w c
        a.place m (at-number (joint group) c.name c (line_named w e.name c low)) a.there) in
        ap (λ (y : ResolvedMember). is_selectable y.flags) hit ∙ of_package importer_is m r.of_all

  pub outside_keeps_kinds : OutsideKeepsKinds (files_together packages)
  outside_keeps_kinds = kinds_kept
