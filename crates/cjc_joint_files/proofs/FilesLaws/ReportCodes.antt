-- The narrow code that members have by their tables is, of each method of a class file, what its package has in Method.
use Rattle.std.proofs.Common.{◌≡◌, ℕ, zero, suc, refl, sym, ap, ◌∙◌, Bool, true, false, List, [], ◌∷◌}
use Rattle.std.specs.Prelude.{Option, Some, None, option_and_then, option_map, slice_get, unwrap_or, if◌then◌else◌}
use Rattle.cjc_components.specs.Package.{Package, pool}
use Rattle.cjc_joint_proof.proofs.PackageNames.{package_is}
use Rattle.cjc_joint_proof.proofs.SoundLaws.{apart}
use Rattle.cjc_joint_proof.proofs.TogetherLaws.{place_is}
use Rattle.cjc_joint_proof.proofs.WorldLaws.{joint_from}
use Rattle.cjc_joint_proof.specs.JointNames.{place_of}
use Rattle.cjc_joint_proof.specs.JointPackages.{files_together}
use Rattle.cjc_joint_proof.specs.Sound.{AreSound}
use Rattle.cjc_joint_proof.specs.Worlds.{AreApart}
use Rattle.cjc_joint_theorem.specs.Members.{Member, files_of, home_by, homes_of, number_of, tables_of, types_by}
use Rattle.cjc_joint_theorem.specs.Together.Homes.{own_codes}
use Rattle.cjc_jvm_semantics.specs.Group.{joint, joint_classes}
use Rattle.cjc_jvm_semantics.specs.Linked.{Method}
use Rattle.cjc_jvm_semantics.specs.OnePackage.{method_at, method_by, method_in}
use Rattle.cjc_narrow_proof.specs.Runs.Tables.{narrow_codes}
use Rattle.cjc_token_proof.specs.NCode.declared.narrow.NMethod.{NMethod}
use Rattle.cjc_token_proof.specs.Narrow.Rows.Package.{code_of}
use Rattle.cjc_token_proof.specs.Narrow.Rows.Selected.{near_fields}
use Rattle.cjc_token_proof.specs.WrittenCalls.Standing.{laid_code}
use Rattle.cjc_world.specs.ClassFile.Code.{CodeTree}
use Rattle.cjc_world.specs.ClassFile.declared.tree.ClassTree.{ClassTree}
use Rattle.cjc_world.specs.ClassFile.declared.tree.MethodTree.{MethodTree}
use Rattle.cjc_world.specs.Files.{Files}
use Rattle.cjc_world.specs.declared.found.Found.{Found}
use Rattle.cjc_joint_files.specs.Members.{AreMembersOf, IsMemberOf}
use Rattle.cjc_joint_files.proofs.FilesLaws.ReportLookups.{CodesAgree}

-- ---- packages and members at a place

pub files_are : (packages : List Package) (members : List Member) → AreMembersOf packages members
    → files_of members ≡ files_together packages
files_are [] [] of = refl
files_are [] (m ∷ members) of = absurd of
files_are (p ∷ packages) [] of = absurd of
files_are (p ∷ packages) (m ∷ members) of =
    let one = of.0 in
    ap (λ f. f ∷ files_of members) one.files ∙ ap (λ fs. p.files ∷ fs) (files_are packages members of.1)

record Pair (packages : List Package) (members : List Member) (q : ℕ) (f : Files) : Type 0 where
  «package» : Package
  member : Member
  is_package : slice_get packages q ≡ Some «package»
  is_member : slice_get members q ≡ Some member
  files : (let p = «package» in p.files ≡ f)
  of : IsMemberOf «package» member

pair : (packages : List Package) (members : List Member) → AreMembersOf packages members → (q : ℕ) (f : Files)
    → slice_get (files_together packages) q ≡ Some f → Pair packages members q f
pair [] members of q f e = absurd cc
pair (p ∷ packages) [] of q f e = absurd of
pair (p ∷ packages) (m ∷ members) of zero f e =
    let same : p.files ≡ f = cc in
    record { «package» = p; member = m; is_package = refl; is_member = refl; files = same; of = of.0 }
pair (p ∷ packages) (m ∷ members) of (suc q) f e =
    let r = pair packages members of.1 q f e in
    record {
      «package» = r.«package»;
      member = r.member;
      is_package = r.is_package;
      is_member = r.is_member;
      files = r.files;
      of = r.of;
    }

-- ---- a method of the packages

its_class : (t : ClassTree) (o : Option MethodTree) (m : Method) → option_map (λ x. method_by t x x.code) o ≡ Some m
    → (let id = m.id in id.class) ≡ t.name
its_class t None m e = absurd cc
its_class t (Some x) m e = by x.code e
  where
    by : (code : Option CodeTree) → Some (method_by t x code) ≡ Some m → (let id = m.id in id.class) ≡ t.name
    by None e = let same : method_by t x None ≡ m = cc in ap (λ (n : Method). let id = n.id in id.class) (sym same)
    by (Some code) e =
        let same : method_by t x (Some code) ≡ m = cc in ap (λ (n : Method). let id = n.id in id.class) (sym same)

-- It is one of a class file of the package at the place of its class.
record Stands (group : List Files) (m : Method) : Type 0 where
  files : Files
  here : slice_get group (place_of group (let id = m.id in id.class)) ≡ Some files
  found : Found
  at : method_at files found ≡ Some m

module _ (group : List Files) (sound : AreSound group) where
  abbrev are_apart : AreApart group
  are_apart = apart group sound

  stands : (f : Found) (m : Method) → method_at (joint group) f ≡ Some m → Stands group m
  stands f m e = imported f.imported e
    where
      in_class : (o : Option ClassTree) → slice_get (joint_classes group) f.class ≡ o
          → option_and_then (method_in f.member) o ≡ Some m → Stands group m
      in_class None is e = absurd cc
      in_class (Some t) is e =
          let x = joint_from group f.class t is in
          let home : place_of group (let id = m.id in id.class) ≡ x.part = ap (place_of group) (its_class t _ m e)
          ∙ place_is group x.part x.files t.name x.own.member (sym (package_is (let p = x.files in p.package_name)
          t.name (are_apart.own x.part x.place x.files t x.own))) (λ j g there same. sound.names j x.part g x.files there
          x.own.member same) in
          record {
            files = x.files;
            here = ap (slice_get group) home ∙ x.own.member;
            found = record { imported = false; class = x.place; member = f.member };
            at = ap (option_and_then (method_in f.member)) x.own.file ∙ e;
          }

      imported : (b : Bool) → (if b then None else option_and_then (method_in f.member) (slice_get (joint_classes group)
          f.class)) ≡ Some m → Stands group m
      imported true e = absurd cc
      imported false e = in_class (slice_get (joint_classes group) f.class) refl e

-- ---- its code

-- what the first package has of a class of none
abbrev pub laid_at : (first : Package) → List Package → Method → NMethod
laid_at first packages m =
    let id = m.id in laid_code (unwrap_or (slice_get packages (place_of (files_together packages) id.class)) first) m

module _ (packages : List Package) (members : List Member) (of : AreMembersOf packages members) (first : Package)
    (sound : AreSound (files_together packages)) where
  -- by the member at a place
  abbrev code_by : Method → ℕ → Option Member → NMethod
  code_by m q o = (let h = home_by q o in code_of h.files h.near (λ x. types_by o x) m)

  pub codes_agree : CodesAgree (files_together packages) (own_codes (homes_of members) (tables_of members)) (laid_at
      first packages)
  codes_agree f m e =
      let s = stands (files_together packages) sound f m e in
      let q = place_of (files_together packages) (let id = m.id in id.class) in
      let r = pair packages members of q s.files s.here in
      let p = r.«package» in
      let x = r.member in
      let is = r.of in
      let home : number_of members m ≡ q =
      ap (λ g. place_of g (let id = m.id in id.class)) (files_are packages members of) in
      let own : own_codes (homes_of members) (tables_of members) m ≡ code_by m q (Some x) =
      ap (λ k. code_by m k (slice_get members k)) home ∙ ap (code_by m q) r.is_member in
      let files : narrow_codes x.files x.near x.tables m ≡ narrow_codes p.files (near_fields (pool p)) x.tables m =
      ap (λ g. narrow_codes g x.near x.tables m) is.files ∙ ap (λ near. narrow_codes p.files near x.tables m) is.near in
      own ∙ files ∙ is.codes s.found m (ap (λ g. method_at g s.found) r.files ∙ s.at)
      ∙ ap (λ o. laid_code (unwrap_or o first) m) (sym r.is_package)
