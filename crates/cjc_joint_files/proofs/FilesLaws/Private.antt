-- No export file that a converted package imports lists a private method: of a class from outside each is public or
-- protected, and so is each of a class of a package before; and of an interface none is private.
use Rattle.std.proofs.Common.{◌≡◌, ℕ, ◌+◌, sym, ap, ◌∙◌, Bool, true, false, List, [], ◌∷◌, ◌++◌, Some, ⊎_elim}
use Rattle.std.proofs.Common.{flat_map, length, refl, subst}
use Rattle.std.specs.Prelude.{◌&&◌, ◌||◌, if◌then◌else◌, not, slice_get}
use Rattle.cjc_bytes.specs.AccessFlags.{is_interface, is_private}
use Rattle.cjc_bytes.proofs.Gets.{mapped_at}
use Rattle.cjc_components.specs.Class.{is_shareable}
use Rattle.cjc_components.specs.ExportFile.{added_from, export_class, inherited, inherited_from, is_listed}
use Rattle.cjc_components.specs.ExportFile.{method_entry, methods_from, supers_from}
use Rattle.cjc_components.specs.Exports.{exported_classes}
use Rattle.cjc_components.specs.Package.{Package, world}
use Rattle.cjc_joint_proof.specs.JointPackages.{AreLinked, IsLinked, files_together, to_outside, to_package}
use Rattle.cjc_joint_proof.proofs.AboveLaws.{flat_at}
use Rattle.cjc_joint_proof.proofs.ClassLaws.{listing, together_at}
use Rattle.cjc_joint_proof.proofs.OutsideLaws.{outside_kept}
use Rattle.cjc_jvm_semantics.specs.Group.{is_of_group, joint_exports}
use Rattle.cjc_shape_proof.proofs.WrittenLaws.FittingLaws.Standing.{added_in, inherited_in, listed_in}
use Rattle.cjc_shape_proof.proofs.WritingLaws.Flags.{interface_kept}
use Rattle.cjc_shape_proof.specs.Written.Converted.{ExportsArePlain}
use Rattle.cjc_token_proof.proofs.WrittenSends.Operations.{flat_from}
use Rattle.cjc_token_proof.specs.Subset.Members.{imports}
use Rattle.cjc_tokens.specs.Lines.{line_at}
use Rattle.cjc_tokens.specs.Members.{is_exposed, is_initialiser}
use Rattle.cjc_tokens.specs.Slots.{row}
use Rattle.cjc_tokens.specs.Methods.{interface_methods, interface_row}
use Rattle.cjc_vtable.proofs.Filed.{Has, get-has, has-either}
use Rattle.cjc_world.specs.Added.{added}
use Rattle.cjc_world.specs.Classes.{Class, Member}
use Rattle.cjc_world.specs.ExportFile.declared.tree.ExportClass.{ExportClass}
use Rattle.cjc_world.specs.ExportFile.declared.tree.ExportMethod.{ExportMethod}
use Rattle.cjc_world.specs.ExportFile.declared.tree.ExportTree.{ExportTree}
use Rattle.cjc_world.specs.Files.{Files}
use Rattle.cjc_joint_files.specs.Fair.{AreFairTogether}

abbrev classes_in : ExportTree → List ExportClass
classes_in t = t.classes

imports_flat : (ts : List ExportTree) → imports ts ≡ flat_map classes_in ts
imports_flat [] = refl
imports_flat (t ∷ ts) = ap (λ xs. t.classes ++ xs) (imports_flat ts)

-- the import of a package that lists a class
pub file_of : (ts : List ExportTree) (k : ℕ) (e : ExportClass) → slice_get (imports ts) k ≡ Some e → (i : ℕ)
    × (t : ExportTree) × (slice_get ts i ≡ Some t) × ((j : ℕ) × (slice_get t.classes j ≡ Some e))
file_of ts k e at = flat_from classes_in ts k e (sym (ap (λ xs. slice_get xs k) (imports_flat ts)) ∙ at)

-- public or protected and not private beside
not_private : (a b : Bool) → (a && b) ≡ false → b ≡ true → a ≡ false
not_private false b e f = refl
not_private true true e f = cc
not_private true false e f = cc

-- a method that is listed of a class is public or protected
class_listed : (c : Class) (m : Member) → is_interface c.flags ≡ false → is_listed c m ≡ true → is_exposed m.flags ≡ true
class_listed c m ground e = by (is_interface c.flags) (is_exposed m.flags) (is_initialiser m.name) ground e
  where
    by : (a b i : Bool) → a ≡ false → ((a || b) && not i) ≡ true → b ≡ true
    by true b i g e = cc
    by false true i g e = refl
    by false false true g e = cc
    by false false false g e = cc

-- so it is in the export file of a package
exports_none : (p : Package) (c : Class) → is_interface c.flags ≡ false → (m : ExportMethod)
    → Has m (let x = export_class p c in x.methods) → (is_private m.flags && is_exposed m.flags) ≡ false
    → is_private m.flags ≡ false
exports_none p c ground m h apart = ⊎_elim own (λ g. ⊎_elim got above (has-either m gets (inherited w c) g))
    (has-either m (methods_from p c (length c.fields) c.methods) (gets ++ inherited w c) h)
  where
    w : List Class
    w = world p

    gets : List ExportMethod
    gets = added_from p c (length c.fields + length c.methods) (added w c)

    by : (x : Member) (t : ℕ) → method_entry t x ≡ m → is_exposed x.flags ≡ true → is_private m.flags ≡ false
    by x t is shown = not_private (is_private m.flags) (is_exposed m.flags) apart (ap (λ (y : ExportMethod). is_exposed
        y.flags) (sym is) ∙ shown)

    own : Has m (methods_from p c (length c.fields) c.methods) → is_private m.flags ≡ false
    own g = let r = listed_in p c (length c.fields) c.methods m g in
        by r.member _ r.is (class_listed c r.member ground r.listed)

    got : Has m gets → is_private m.flags ≡ false
    got g = let r = added_in p c (length c.fields + length c.methods) (added w c) m g in
        ap (λ (y : ExportMethod). is_private y.flags) (sym r.is)

    above : Has m (inherited w c) → is_private m.flags ≡ false
    above g =
        let same : inherited w c ≡ inherited_from w c 0 (row (line_at w c)) = ap (λ b. if b then supers_from w c 0
        (interface_methods w c) (interface_row w c) else inherited_from w c 0 (row (line_at w c))) ground in
        let r = inherited_in w c 0 (row (line_at w c)) m (subst (Has m) same g) in
        by r.member _ r.is r.exposed

module _ (packages : List Package) (linked : AreLinked packages) (fair : AreFairTogether packages) where
  abbrev group : List Files
  group = files_together packages

  -- an import from outside is one of the joint world
  pub kept_outside : (q k : ℕ) (p : Package) (t : ExportTree) → slice_get packages q ≡ Some p
      → (let f = p.files in slice_get f.exports k ≡ Some t) → is_of_group group t.name ≡ false → (r : ℕ)
      × (slice_get (joint_exports group) r ≡ Some t)
  kept_outside q k p t here file out =
      let n = flat_at (λ (g : Files). g.exports) group q k p.files t (together_at packages linked q p here) file in (
        _,
        outside_kept group n.0 t n.1 out (λ j u at name. (let y = listing packages linked j u at in linked.same q k
            y.part y.place p y.«package» t u (record { member = here; file = file }) y.listed out name)),
      )

  module _ (q : ℕ) (p : Package) (here : slice_get packages q ≡ Some p) (plain : ExportsArePlain p.files) (e : ExportClass)
      (i : ℕ) (m : ExportMethod) (has : slice_get e.methods i ≡ Some m)
      (apart : (is_private m.flags && is_exposed m.flags) ≡ false) where
    of_class : is_interface e.flags ≡ false → (j n : ℕ) (t : ExportTree) → (let f = p.files in slice_get f.exports j
        ≡ Some t) → slice_get t.classes n ≡ Some e → IsLinked packages q t → is_private m.flags ≡ false
    of_class ground j n t file listed (to_outside out) =
        let r = kept_outside q j p t here file out in
        let all = flat_at (λ (u : ExportTree). u.classes) (joint_exports group) r.0 n t e r.1 listed in
        not_private (is_private m.flags) (is_exposed m.flags) apart (fair.exposed all.0 i e m all.1 has)
    of_class ground j n t file listed (to_package r x lt there same) =
        let c = mapped_at (export_class x) (exported_classes x) n e (ap (λ (u : ExportTree). slice_get u.classes n)
        (sym same) ∙ listed) in
        let d = c.0 in
        let plain_class : is_interface d.flags ≡ false = sym (interface_kept d.flags (is_shareable (world x) d))
        ∙ ap (λ (y : ExportClass). is_interface y.flags) c.2 ∙ ground in
        exports_none x d plain_class m (get-has m (let y = export_class x d in y.methods) i
        (ap (λ (y : ExportClass). slice_get y.methods i) c.2 ∙ has)) apart

  pub no_private : (q : ℕ) (p : Package) → slice_get packages q ≡ Some p → ExportsArePlain p.files → (k i : ℕ)
      (e : ExportClass) (m : ExportMethod) → (let f = p.files in slice_get (imports f.exports) k ≡ Some e)
      → slice_get e.methods i ≡ Some m → is_private m.flags ≡ false
  no_private q p here plain k i e m at has = by (is_interface e.flags) refl
    where
      by : (b : Bool) → is_interface e.flags ≡ b → is_private m.flags ≡ false
      by true kind = (plain.interfaces k e at kind i m has).0
      by false kind =
          let r = file_of (let f = p.files in f.exports) k e at in
          of_class q p here plain e i m has (plain.visible k e at i m has) kind r.0 r.3.0 r.1 r.2 r.3.1
          (linked.imports q r.0 p r.1 (record { member = here; file = r.2 }))
