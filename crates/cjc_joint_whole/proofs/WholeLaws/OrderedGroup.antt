-- Packages that link have their classes in order together: what they import says of each class of which kind it is.
use Rattle.std.proofs.Common.{◌≡◌, ℕ, ◌+◌, refl, sym, ap, subst, ◌∙◌, true, false, List, ◌++◌, ⊎_elim, Some}
use Rattle.std.specs.Prelude.{slice_get}
use Rattle.cjc_bytes.specs.AccessFlags.{is_abstract, is_interface}
use Rattle.cjc_bytes.proofs.Bools.{clash}
use Rattle.cjc_components.specs.ExportFile.{export_of}
use Rattle.cjc_components.specs.Package.{Package, world}
use Rattle.cjc_joint_proof.specs.JointPackages.{AreLinked, IsLinked, files_together, to_outside, to_package}
use Rattle.cjc_joint_proof.specs.JointTables.{KeepSupers, world_together}
use Rattle.cjc_joint_proof.specs.Worlds.{AreApart, IsOwn, before, outside_classes}
use Rattle.cjc_joint_proof.proofs.AboveLaws.{flat_at}
use Rattle.cjc_joint_proof.proofs.ClassLaws.{listing, together_at}
use Rattle.cjc_joint_proof.proofs.OutsideLaws.{outside_kept}
use Rattle.cjc_joint_proof.proofs.SoundLaws.{apart as names_apart}
use Rattle.cjc_joint_proof.proofs.StandLaws.{Inside, Outside, stands}
use Rattle.cjc_joint_proof.proofs.WorldLaws.{own_is_found}
use Rattle.cjc_joint_theorem.specs.Ordered.{AreOrdered, IsOutsideOrdered, TellsKinds}
use Rattle.cjc_jvm_semantics.specs.Group.{is_of_group, joint_exports}
use Rattle.cjc_token_proof.proofs.WrittenSends.Operations.{flat_from}
use Rattle.cjc_world.specs.ClassFile.declared.tree.ClassTree.{ClassTree}
use Rattle.cjc_world.specs.Classes.{Class, all_classes, class_named, declared}
use Rattle.cjc_world.specs.ExportFile.declared.tree.ExportClass.{ExportClass}
use Rattle.cjc_world.specs.ExportFile.declared.tree.ExportTree.{ExportTree}
use Rattle.cjc_world.specs.Files.{Files}
use Rattle.cjc_world.specs.Supertypes.{Lists}
use Rattle.cjc_world.specs.Upwards.{IsOrdered}
use Rattle.cjc_joint_whole.specs.Grouped.{AreGrouped}
use Rattle.cjc_joint_whole.specs.Selected.{SelectTogether}
use Rattle.cjc_joint_whole.specs.Whole.{IsWrittenFor}
use Rattle.cjc_joint_whole.proofs.WholeLaws.Imported.{are_imports}
use Rattle.cjc_joint_whole.proofs.WholeLaws.Imports.{exported}
use Rattle.cjc_joint_whole.proofs.WholeLaws.Linked.{package_with}

module _ (packages : List Package) (linked : AreLinked packages) (keep : KeepSupers packages)
    (is : AreGrouped packages) where
  abbrev group : List Files
  group = files_together packages

  abbrev w : List Class
  w = world_together packages

  are_apart : AreApart group
  are_apart = names_apart group linked.sound

  written_for : (r : ℕ) (e : Package) (t : ExportTree) → slice_get packages r ≡ Some e → t ≡ export_of e
      → IsWrittenFor e.files t
  written_for r e t there same =
      let s = is.each r e there in
      let k = s.runs in
      record {
        exporter = e;
        same_files = refl;
        is = same;
        unbound = k.unbound;
      }

  -- ---- of what kind classes are

  -- two class files of one name are one
  one_class : (i k j n : ℕ) (p m : Files) (c t : ClassTree) → IsOwn group i k p c → IsOwn group j n m t
      → c.name ≡ t.name → declared (before group i + k) c ≡ declared (before group j + n) t
  one_class i k j n p m c t own other same = one (sym (own_is_found group are_apart i k p c own)
      ∙ ap (class_named w) same ∙ own_is_found group are_apart j n m t other)
    where
      one : {a b : Class} → Some a ≡ Some b → a ≡ b
      one e = cc

  -- an import from outside is one of the joint world
  kept_outside : (q k : ℕ) (p : Package) (t : ExportTree) → slice_get packages q ≡ Some p
      → (let f = p.files in slice_get f.exports k ≡ Some t) → is_of_group group t.name ≡ false → (r : ℕ)
      × (slice_get (joint_exports group) r ≡ Some t)
  kept_outside q k p t here file out =
      let n = flat_at (λ (g : Files). g.exports) group q k p.files t (together_at packages linked q p here) file in (
        _,
        outside_kept group n.0 t n.1 out (λ j u at name. (let y = listing packages linked j u at in linked.same q k
            y.part y.place p y.«package» t u (record { member = here; file = file }) y.listed out name)),
      )

  kind_told : (q k : ℕ) (p : Package) (t : ExportTree) → slice_get packages q ≡ Some p
      → (let f = p.files in slice_get f.exports k ≡ Some t) → IsLinked packages q t → (j : ℕ) (m : Files)
      → slice_get group j ≡ Some m → TellsKinds m t
  kind_told q k p t here file (to_package r e lt there same_tree) j m at n i e_class c listed found same =
      let x = exported e.files t (written_for r e t there same_tree) n e_class listed in
      let y = x.kind in
      let own : IsOwn group j i m c = record { member = at; file = found } in
      let other : IsOwn group r x.number e.files x.class = record {
        member = together_at packages linked r e there;
        file = x.file;
      } in
      let one = one_class j i r x.number m e.files c x.class own other (same ∙ sym x.same_name) in
      record {
        interface = ap (λ (v : Class). is_interface v.flags) one ∙ y.interface;
        abstract_one = ap (λ (v : Class). is_abstract v.flags) one ∙ y.abstract_one;
      }
  kind_told q k p t here file (to_outside out) j m at n i e_class c listed found same =
      let r = kept_outside q k p t here file out in
      let all = flat_at (λ (u : ExportTree). u.classes) (joint_exports group) r.0 n t e_class r.1 listed in
      let g = is.keeps in
      let far = g.outside in
      absurd (far.no_own j i all.0 m c e_class (record { member = at; file = found }) all.1 (sym same))

  kinds_told : (q j k : ℕ) (p m : Files) (t : ExportTree) → slice_get group q ≡ Some p → slice_get p.exports k ≡ Some t
      → slice_get group j ≡ Some m → TellsKinds m t
  kinds_told q j k p m t at file there =
      let e = package_with packages q p at in
      let its : (let g = e.0 in let f = g.files in slice_get f.exports k ≡ Some t) = ap (λ (f : Files). slice_get
      f.exports k) (sym e.2) ∙ file in
      kind_told q k e.0 t e.1 its (linked.imports q k e.0 t (record { member = e.1; file = its })) j m there

  -- ---- classes from outside

  abroad : (n : ℕ) (e : ExportClass) (y : List ℕ) (d : Class) → slice_get (outside_classes group) n ≡ Some e
      → Lists y (e.supers ++ e.interfaces) → class_named w y ≡ Some d → d.is_imported ≡ true
  abroad n e y d at l named = ⊎_elim inside outside (stands packages linked y d named)
    where
      inside : Inside packages linked y d → d.is_imported ≡ true
      inside i =
          let r = flat_from (λ (t : ExportTree). t.classes) (joint_exports group) n e at in
          let far = keep.outside r.0 r.3.0 i.part r.1 e i.«package» (declared i.place i.tree) y r.2 r.3.1 l i.here i.there
          in
          absurd (clash false far refl)

      outside : Outside packages linked y d → d.is_imported ≡ true
      outside o = ap (λ (c : Class). c.is_imported) o.is

  ordered_outside : IsOutsideOrdered group
  ordered_outside =
      let f = is.fair in
      record { acyclic = keep.acyclic; supers = f.supers; interfaces = f.interfaces; alone = abroad }

  ordered_together : AreOrdered group
  ordered_together =
      let g = is.keeps in
      record {
        sound = linked.sound;
        outside = g.outside;
        imports = are_imports packages linked (λ q p here. (let o = is.ordered q p here in o.acyclic));
        kinds = kinds_told;
        order = ordered_outside;
        each = λ q f at. (let e = package_with packages q f at in subst_order f e.0 e.2 (is.ordered q e.0 e.1));
      }
    where
      subst_order : (f : Files) (e : Package) → f ≡ e.files → IsOrdered (world e) → IsOrdered (all_classes f)
      subst_order f e same o = subst (λ (g : Files). IsOrdered (all_classes g)) (sym same) o

  -- so their calls are selected together
  pub select_together : SelectTogether packages
  select_together =
      let f = is.fair in
      record {
        linked = linked;
        supers = keep;
        ordered = ordered_together;
        each = is.each;
        exposed = f.exposed;
        open_interfaces = is.open_interfaces;
        told = f.told;
      }
