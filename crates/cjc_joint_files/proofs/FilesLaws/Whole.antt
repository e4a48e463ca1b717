-- Converted packages that break no rule together, over fair files, are whole members of a group.
use Rattle.std.proofs.Common.{◌≡◌, ℕ, zero, suc, refl, sym, ap, subst, ◌∙◌, false, List, [], ◌∷◌, Some}
use Rattle.std.specs.Prelude.{slice_get}
use Rattle.cjc_components.specs.ExportFile.{export_of}
use Rattle.cjc_components.specs.Package.{Package}
use Rattle.cjc_joint_proof.specs.Begun.{AreBegun, all_files, all_images}
use Rattle.cjc_joint_proof.specs.Images.{TellOwnFields}
use Rattle.cjc_joint_proof.specs.JointPackages.{AreLinked, IsLinked, files_together, to_outside, to_package}
use Rattle.cjc_joint_proof.specs.Sound.{AreSound}
use Rattle.cjc_joint_proof.specs.Worlds.{AreApartFromOutside, outside_classes}
use Rattle.cjc_joint_proof.proofs.BegunLaws.{own_fields}
use Rattle.cjc_joint_proof.proofs.SoundLaws.{apart}
use Rattle.cjc_joint_theorem.specs.Members.{Member, files_of, images_of}
use Rattle.cjc_joint_theorem.specs.Ordered.{IsOutsideOrdered}
use Rattle.cjc_joint_whole.specs.Selected.{SelectTogether}
use Rattle.cjc_joint_whole.specs.Whole.{AreImplemented, AreWhole, IsExport, IsWholeMember, IsWrittenFor, from_outside}
use Rattle.cjc_joint_whole.specs.Whole.{of_member}
use Rattle.cjc_joint_whole.proofs.WholeLaws.Together.{is_begun}
use Rattle.cjc_jvm_semantics.specs.Group.{is_package_visible, joint_exports}
use Rattle.cjc_jvm_semantics.specs.OnePackage.{is_initialiser}
use Rattle.cjc_world.specs.ExportFile.declared.tree.ExportClass.{ExportClass}
use Rattle.cjc_world.specs.ExportFile.declared.tree.ExportMethod.{ExportMethod}
use Rattle.cjc_world.specs.ExportFile.declared.tree.ExportTree.{ExportTree}
use Rattle.cjc_world.specs.Files.{Files}
use Rattle.cjc_world.specs.declared.image.StaticImage.{StaticImage}
use Rattle.cjc_joint_files.specs.Fair.{AreFairTogether}
use Rattle.cjc_joint_files.specs.Members.{AreMembersOf}
use Rattle.cjc_joint_files.specs.Written.{IsWritten}
use Rattle.cjc_joint_files.proofs.FilesLaws.Private.{kept_outside, no_private}
use Rattle.cjc_joint_files.proofs.FilesLaws.Tabled.{HasFirst, HasRanges, is_member, member_with, not_visible, whole_member}

-- each of these packages was converted
abbrev pub AllWritten : List Package → Type 0
AllWritten packages = (q : ℕ) (p : Package) → slice_get packages q ≡ Some p → IsWritten p

module _ (least : HasRanges) where
  -- their members
  pub members_from : (packages : List Package) → AllWritten packages → List Member
  members_from [] each = []
  members_from (p ∷ packages) each = member_with least p (each 0 p refl) ∷ members_from packages (λ q x at. each (suc q) x
      at)

  pub are_members : (packages : List Package) (each : AllWritten packages) → AreMembersOf packages (members_from packages
      each)
  unfolding members_from
  are_members [] each = tt
  are_members (p ∷ packages) each = (is_member least p (each 0 p refl), are_members packages (λ q x at. each (suc q) x at))

  pub same_files : (packages : List Package) (each : AllWritten packages) → files_together packages ≡ files_of (members_from
      packages each)
  unfolding members_from
  same_files [] each = refl
  same_files (p ∷ packages) each = ap (λ fs. p.files ∷ fs) (same_files packages (λ q x at. each (suc q) x at))

  all_same : (packages : List Package) (each : AllWritten packages) → all_files packages ≡ files_of (members_from packages
      each)
  unfolding members_from
  all_same [] each = refl
  all_same (p ∷ packages) each = ap (λ fs. p.files ∷ fs) (all_same packages (λ q x at. each (suc q) x at))

  pub same_images : (packages : List Package) (each : AllWritten packages) → all_images packages ≡ images_of (members_from
      packages each)
  unfolding members_from
  same_images [] each = refl
  same_images (p ∷ packages) each = ap (λ fs. p.image ∷ fs) (same_images packages (λ q x at. each (suc q) x at))

  -- a member by its place
  record IsThere (packages : List Package) (q : ℕ) (m : Member) : Type 0 where
    «package» : Package
    here : slice_get packages q ≡ Some «package»
    written : IsWritten «package»
    is : member_with least «package» written ≡ m

  there : (packages : List Package) (each : AllWritten packages) (q : ℕ) (m : Member)
      → slice_get (members_from packages each) q ≡ Some m → IsThere packages q m
  unfolding members_from
  there [] each q m at = absurd cc
  there (p ∷ packages) each zero m at = record { «package» = p; here = refl; written = each 0 p refl; is = cc }
  there (p ∷ packages) each (suc q) m at =
      let r = there packages (λ k x h. each (suc k) x h) q m at in
      record { «package» = r.«package»; here = r.here; written = r.written; is = r.is }

  -- and the member of a package
  member_at : (packages : List Package) (each : AllWritten packages) (q : ℕ) (p : Package) → slice_get packages q ≡ Some p
      → (m : Member) × (slice_get (members_from packages each) q ≡ Some m) × (m.files ≡ p.files)
  unfolding members_from
  member_at [] each q p at = absurd cc
  member_at (x ∷ packages) each zero p at =
      let same : x ≡ p = cc in (member_with least x (each 0 x refl), refl, ap (λ (y : Package). y.files) same)
  member_at (x ∷ packages) each (suc q) p at = member_at packages (λ k y h. each (suc k) y h) q p at

  module _ (packages : List Package) (each : AllWritten packages) (fair : AreFairTogether packages)
      (is : SelectTogether packages) (first : HasFirst) (implemented : AreImplemented (files_together packages)) where
    abbrev members : List Member
    members = members_from packages each

    linked : AreLinked packages
    linked = is.linked

    same : files_together packages ≡ files_of members
    same = same_files packages each

    member_whole : (q : ℕ) (m : Member) → slice_get members q ≡ Some m → IsWholeMember m
    member_whole q m at =
        let r = there packages each q m at in
        let p = r.«package» in
        let w = r.written in
        let c = w.converted in
        subst IsWholeMember r.is (whole_member least p w first (no_private packages linked fair q p r.here c.plain)
        (λ k x i n. fair.open_interfaces q k p x i n r.here))

    -- ---- what is written for a package before

    written_for : (r : ℕ) (e : Package) (t : ExportTree) → slice_get packages r ≡ Some e → t ≡ export_of e
        → (files : Files) → files ≡ e.files → IsWrittenFor files t
    written_for r e t at same_tree files so =
        let s = is.each r e at in
        let k = s.runs in
        record {
          exporter = e;
          same_files = sym so;
          is = same_tree;
          unbound = k.unbound;
        }

    is_export : (q k : ℕ) (m : Member) (t : ExportTree) → slice_get members q ≡ Some m
        → (let f = m.files in slice_get f.exports k ≡ Some t) → IsExport members q t
    is_export q k m t at file = by (linked.imports q k p t (record { member = r.here; file = its_file }))
      where
        r : IsThere packages q m
        r = there packages each q m at

        p : Package
        p = r.«package»

        its_file : (let f = p.files in slice_get f.exports k ≡ Some t)
        its_file = ap (λ (x : Member). let f = x.files in slice_get f.exports k) r.is ∙ file

        by : IsLinked packages q t → IsExport members q t
        by (to_package j e lt at_e tree) =
            let x = member_at packages each j e at_e in
            of_member j x.0 lt x.1 (written_for j e t at_e tree (let y = x.0 in y.files) x.2)
        by (to_outside out) =
            let n = kept_outside packages linked fair q k p t r.here its_file out in
            from_outside n.0 (ap (λ g. slice_get (joint_exports g) n.0) (sym same) ∙ n.1)

    -- ---- what their images tell

    begun : AreBegun packages
    begun q p at = let s = is.each q p at in is_begun p s.runs

    sound_all : AreSound (all_files packages)
    sound_all = subst AreSound (same ∙ sym (all_same packages each)) linked.sound

    tell : TellOwnFields (files_of members) (images_of members)
    tell = subst (λ (x : List StaticImage). TellOwnFields (files_of members) x) (same_images packages each)
        (subst (λ (x : List Files). TellOwnFields x (all_images packages)) (all_same packages each)
        (own_fields packages begun (apart (all_files packages) sound_all)))

    -- ---- classes from outside

    abbrev ListsShown : List Files → Type 0
    ListsShown group = (k i : ℕ) (e : ExportClass) (m : ExportMethod) → slice_get (outside_classes group) k ≡ Some e
        → slice_get e.methods i ≡ Some m → is_initialiser m.name ≡ false → is_package_visible m.flags ≡ false

    shown : ListsShown (files_together packages)
    shown k i e m at has plain = not_visible m.flags (fair.exposed k i e m at has)

    pub are_whole : AreWhole members
    are_whole =
        let o = is.ordered in
        record {
          each = member_whole;
          sound = subst AreSound same linked.sound;
          outside = subst AreApartFromOutside same fair.outside;
          written = is_export;
          order = subst IsOutsideOrdered same o.order;
          told = tell;
          implemented = subst AreImplemented same implemented;
          shown = subst ListsShown same shown;
        }
