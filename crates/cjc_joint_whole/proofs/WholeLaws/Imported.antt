-- What packages of a group import says what is so: the export file of a package lists above each class what stands above
-- it in the package's world.
use Rattle.std.proofs.Common.{◌≡◌, ℕ, sym, ap, subst, ◌∙◌, List, ◌++◌, Some, ⊎_elim}
use Rattle.std.specs.Prelude.{slice_get}
use Rattle.cjc_bytes.proofs.Gets.{mapped_at}
use Rattle.cjc_components.specs.ExportFile.{export_class, export_of}
use Rattle.cjc_components.specs.Exports.{exported_classes}
use Rattle.cjc_components.specs.Package.{Package, world}
use Rattle.cjc_joint_proof.specs.Imports.{AreImports, IsImport, IsToldBy, of_outside, of_package}
use Rattle.cjc_joint_proof.specs.JointPackages.{AreLinked, IsLinked, files_together, to_outside, to_package}
use Rattle.cjc_joint_proof.specs.Loading.{group_of, member_of}
use Rattle.cjc_joint_proof.proofs.AboveLaws.{flat_at}
use Rattle.cjc_joint_proof.proofs.ClassLaws.{listing, sound_at, together_at}
use Rattle.cjc_joint_proof.proofs.OutsideLaws.{outside_kept}
use Rattle.cjc_link_semantics.specs.Loaded.{Member}
use Rattle.cjc_shape_proof.proofs.ExportedOwn.{IsOwn, own_class}
use Rattle.cjc_theorem.proofs.FairWriting.Upwards.{interface_below, step_above, super_under, under_below}
use Rattle.cjc_token_proof.proofs.TablesLaws.Clean.{own_name}
use Rattle.cjc_token_proof.proofs.TablesLaws.Filed.{own_in}
use Rattle.cjc_token_proof.specs.ClassOrder.Supers.Supers.{interfaces, superclasses}
use Rattle.cjc_token_proof.specs.Tables.Sound.{IsSound}
use Rattle.cjc_world.proofs.Settled.{lists-front}
use Rattle.cjc_world.proofs.Trees.{lists-split}
use Rattle.cjc_world.specs.Classes.{Class, class_named, declared}
use Rattle.cjc_world.specs.ExportFile.declared.tree.ExportClass.{ExportClass}
use Rattle.cjc_world.specs.ExportFile.declared.tree.ExportTree.{ExportTree}
use Rattle.cjc_world.specs.Files.{Files}
use Rattle.cjc_world.specs.Supertypes.{Above, IsAcyclic, Lists}

-- the export file of a package tells of its classes what stands above them
pub told_by : (list : List ℕ) (p : Package) → IsSound list p.files → IsAcyclic (world p)
    → IsToldBy p.files (export_of p)
told_by list p sound acyclic n x at =
    record { number = o.number; class = o.tree; file = o.is_tree; name = name; above = above }
  where
    c : (y : Class) × (slice_get (exported_classes p) n ≡ Some y) × (export_class p y ≡ x)
    c = mapped_at (export_class p) (exported_classes p) n x at

    o : IsOwn p c.0
    o = own_class p n c.0 c.1

    name : (let t = o.tree in t.name) ≡ x.name
    name = ap (λ (y : Class). y.name) (sym o.is) ∙ ap (λ (y : ExportClass). y.name) c.2

    -- the class by its name
    named : class_named (world p) (let d = c.0 in d.name) ≡ Some c.0
    named =
        let t = declared o.number o.tree in
        let its : class_named (world p) t.name ≡ Some t = own_name list p.files sound t (own_in p.files sound.classes
        sound.exports o.number o.tree o.is_tree) in
        subst (λ (d : Class). class_named (world p) d.name ≡ Some d) (sym o.is) its

    above : (y : List ℕ) → Lists y (x.supers ++ x.interfaces) → Above (world p) x.name y
    above y l =
        let d = c.0 in
        let w = world p in
        let listed : Lists y (superclasses w d ++ interfaces w d) = subst (λ (e : ExportClass). Lists y (e.supers
        ++ e.interfaces)) (sym c.2) l in
        subst (λ z. Above w z y) (ap (λ (e : ExportClass). e.name) c.2) (⊎_elim
        (λ s. let r = super_under w acyclic d y s in step_above w d.name r.0 y d named (lists-front r.0 d.supers
        d.interfaces r.1) (under_below w r.0 y r.2))
        (λ i. let r = interface_below w acyclic d y i in step_above w d.name r.0 y d named r.1 r.2)
        (lists-split y (superclasses w d) (interfaces w d) listed))

-- so what packages of a group import is of a package before, or from outside
pub are_imports : (packages : List Package) → AreLinked packages → ((q : ℕ) (p : Package)
    → slice_get packages q ≡ Some p → IsAcyclic (world p)) → AreImports (files_together packages)
are_imports packages linked acyclic i k f t at listed =
    let p = package_at i f at in
    imported i k p.0 t p.1 (ap (λ (g : Files). slice_get g.exports k) (sym p.2) ∙ listed)
  where
    package_at : (i : ℕ) (f : Files) → slice_get (files_together packages) i ≡ Some f → (p : Package)
        × (slice_get packages i ≡ Some p) × (f ≡ p.files)
    package_at i f at =
        let m = mapped_at (λ (m : Member). m.files) (group_of packages) i f at in
        let k = mapped_at member_of packages i m.0 m.1 in
        (k.0, k.1, sym (ap (λ (m : Member). m.files) k.2 ∙ m.2))

    imported : (i k : ℕ) (p : Package) (t : ExportTree) → slice_get packages i ≡ Some p
        → (let g = p.files in slice_get g.exports k ≡ Some t) → IsImport (files_together packages) i t
    imported i k p t here file = by (linked.imports i k p t (record { member = here; file = file }))
      where
        by : IsLinked packages i t → IsImport (files_together packages) i t
        by (to_package r e before there same) =
            let s = sound_at packages linked r e there in
            of_package r e.files before (together_at packages linked r e there) (subst (IsToldBy e.files) (sym same)
            (told_by s.list e s.sound (acyclic r e there)))
        by (to_outside out) =
            let n = flat_at (λ (g : Files). g.exports) (files_together packages) i k p.files t (together_at packages
            linked i p here) file in
            of_outside _ (outside_kept (files_together packages) n.0 t n.1 out (λ j u at' name. (let y = listing packages
            linked j u at' in linked.same i k y.part y.place p y.«package» t u (record { member = here; file = file })
            y.listed out name)))
