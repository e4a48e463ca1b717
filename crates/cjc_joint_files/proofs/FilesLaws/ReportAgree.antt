-- The joint reports of packages that were converted, by name and by token: both are those of the packages' narrow code,
-- which by token has its handlers in the order of the table.
use Rattle.std.proofs.Common.{◌≡◌, ℕ, zero, suc, ◌<◌, refl, sym, ap, subst, ◌∙◌, arith, List, [], ◌∷◌, length}
use Rattle.std.specs.Prelude.{◌≢◌, Option, Some, None, slice_get, slice_index_or, unwrap_or}
use Rattle.cjc_components.specs.Package.{Package, pool}
use Rattle.cjc_joint_proof.specs.Begun.{all_images}
use Rattle.cjc_joint_proof.specs.JointCode.{JointCalls, run as run_in_packages}
use Rattle.cjc_joint_proof.specs.JointNames.{joint_labels, joint_named, place_of}
use Rattle.cjc_joint_proof.specs.JointPackages.{files_together}
use Rattle.cjc_joint_proof.specs.JointTowers.{loaded_together}
use Rattle.cjc_joint_proof.specs.Loading.{group_of, member_of}
use Rattle.cjc_joint_theorem.specs.Members.{Member, files_of, homes_of, images_of, tables_of}
use Rattle.cjc_joint_theorem.specs.Together.Homes.{own_codes}
use Rattle.cjc_joint_whole.specs.Selected.{SelectTogether, SelectsAlone}
use Rattle.cjc_joint_whole.specs.Tokens.{stands_at}
use Rattle.cjc_jvm_semantics.specs.Group.{joint_image, run_group}
use Rattle.cjc_jvm_semantics.specs.Linked.{Method}
use Rattle.cjc_link_semantics.specs.Loaded.{Member as Loaded}
use Rattle.cjc_link_semantics.specs.Together.{HasImage}
use Rattle.cjc_link_semantics.specs.Together as linked
use Rattle.cjc_shape_proof.proofs.WrittenLaws.Ordering.{IsOrdered, laid_ordered, placed_is}
use Rattle.cjc_theorem.proofs.AlikeLaws.Agreeing.{agree_also}
use Rattle.cjc_token_proof.specs.CardSemantics.Bytecode.Runs.{Agree}
use Rattle.cjc_token_proof.specs.CardSemantics.Machine.ByToken.{run as run_by_token}
use Rattle.cjc_token_proof.specs.NCode.declared.narrow.NMethod.{NMethod}
use Rattle.cjc_token_proof.specs.Narrow.Rows.Selected.{near_fields}
use Rattle.cjc_token_proof.specs.WrittenCalls.Standing.{laid_code}
use Rattle.cjc_token_proof.specs.Script.declared.report.Outcome.TheVariants.{Stuck}
use Rattle.cjc_token_proof.specs.Script.declared.report.Report.{Report}
use Rattle.cjc_token_proof.specs.Script.declared.script.Script.{Script}
use Rattle.cjc_world.specs.Files.{Files}
use Rattle.cjc_world.specs.declared.image.StaticImage.{StaticImage}
use Rattle.cjc_joint_files.specs.Members.{AreMembersOf}
use Rattle.cjc_joint_files.specs.Written.{IsWritten}
use Rattle.cjc_joint_files.proofs.FilesLaws.ReportCodes.{codes_agree, files_are, laid_at}
use Rattle.cjc_joint_files.proofs.FilesLaws.ReportLookups.{same_labels, same_named}
use Rattle.cjc_joint_files.proofs.FilesLaws.ReportSorted.{SearchesStay, runs_sorted}

-- ---- images

images_are : (packages : List Package) (members : List Member) → AreMembersOf packages members
    → images_of members ≡ all_images packages
images_are [] [] of = refl
images_are [] (m ∷ members) of = absurd of
images_are (p ∷ packages) [] of = absurd of
images_are (p ∷ packages) (m ∷ members) of =
    let one = of.0 in
    ap (λ i. i ∷ images_of members) one.image ∙ ap (λ is. p.image ∷ is) (images_are packages members of.1)

loaded_images : (packages : List Package) → linked.images_of (group_of packages) ≡ all_images packages
loaded_images [] = refl
loaded_images (p ∷ packages) = ap (λ is. p.image ∷ is) (loaded_images packages)

image_of : (p : Package) → IsWritten p → HasImage (member_of p)
image_of p w =
    let c = w.converted in
    let laid = c.is_package in
    let written = laid.is_package in
    written.image

pub have_images : (packages : List Package) → ((q : ℕ) (p : Package) → slice_get packages q ≡ Some p → IsWritten p)
    → (k : ℕ) (d : Loaded) → k < length (group_of packages) → HasImage (slice_index_or (group_of packages) k d)
have_images [] each k d lt = absurd (omega (arith, lt))
have_images (p ∷ packages) each zero d lt = image_of p (each 0 p refl)
have_images (p ∷ packages) each (suc k) d lt =
    have_images packages (λ q x at. each (suc q) x at) k d (omega (arith, lt))

-- the first package has a member
pub first_member : (packages : List Package) (members : List Member) → AreMembersOf packages members → (p : Package)
    → slice_get packages 0 ≡ Some p → (m : Member) × (slice_get members 0 ≡ Some m)
first_member [] members of p e = absurd cc
first_member (x ∷ packages) [] of p e = absurd of
first_member (x ∷ packages) (m ∷ members) of p e = (m, refl)

-- ---- the code of each method

module _ (packages : List Package) (first : Package) where
  -- the place of a method's package
  abbrev place_for : Method → ℕ
  place_for m = let id = m.id in place_of (files_together packages) id.class

  -- its package; the first where it is of none
  abbrev package_for : Method → Package
  package_for m = unwrap_or (slice_get packages (place_for m)) first

  -- by token it stands with its handlers in the order of the table
  abbrev placed_at : Method → NMethod
  placed_at m = let p = stands_at first packages m in p.method

  module _ (starts : slice_get packages 0 ≡ Some first) (each : (q : ℕ) (p : Package) → slice_get packages q ≡ Some p
      → SelectsAlone p) where
    ordered_in : (q : ℕ) (p : Package) → slice_get packages q ≡ Some p → (m : Method) → IsOrdered (laid_code p m)
    ordered_in q p at m =
        let s = each q p at in
        let runs = s.runs in
        laid_ordered p.files (near_fields (pool p)) p.methods m runs.runnable.ordered

    ordered_at : (m : Method) → IsOrdered (laid_at first packages m)
    ordered_at m = by (slice_get packages (place_for m)) refl
      where
        by : (o : Option Package) → slice_get packages (place_for m) ≡ o → IsOrdered (laid_code (unwrap_or o first) m)
        by None e = ordered_in 0 first starts m
        by (Some p) e = ordered_in (place_for m) p e m

-- ---- the reports

module _ (packages : List Package) (members : List Member) (of : AreMembersOf packages members) (first : Package)
    (starts : slice_get packages 0 ≡ Some first) (is : SelectTogether packages) (search : SearchesStay) where
  abbrev files : List Files
  files = files_together packages

  abbrev image : StaticImage
  image = joint_image (all_images packages)

  -- the run of narrow code
  abbrev narrow : (Method → NMethod) → Script → ℕ → Report
  narrow code script n = run_in_packages (joint_named files image code) (joint_labels files code) script n

  abbrev told : Method → NMethod
  told = own_codes (homes_of members) (tables_of members)

  abbrev laid : Method → NMethod
  laid = laid_at first packages

  abbrev placed : Method → NMethod
  placed = placed_at packages first

  same_code : (script : Script) (n : ℕ) → narrow told script n ≡ narrow laid script n
  same_code script n =
      let alike = codes_agree packages members of first is.linked.sound in
      ap (λ l. run_in_packages l (joint_labels files told) script n) (same_named files image told laid alike)
      ∙ ap (λ (c : JointCalls NMethod). run_in_packages (joint_named files image laid) c script n)
      (same_labels files image told laid alike)

  sorted_code : (script : Script) (n : ℕ) → ((at : ℕ) → (narrow laid script n).outcome ≢ Stuck at)
      → narrow placed script n ≡ narrow laid script n
  sorted_code script n free = runs_sorted files image laid placed (λ m. placed_is (package_for packages first m) m)
      (ordered_at packages first starts is.each) search script n free

  -- by name
  abbrev Follows : List Files → List StaticImage → Script → Type 0
  Follows group images script =
      Agree 2 (λ n. run_group group images script n) (λ n. run_in_packages (joint_named group (joint_image images) told)
      (joint_labels group told) script n)

  module _ (script : Script) (by_name : Follows (files_of members) (images_of members) script)
      (by_token : (n : ℕ) → ((place : ℕ) → (narrow placed script n).outcome ≢ Stuck place)
      → run_by_token (loaded_together packages) script n ≡ narrow placed script n) where
    named : Follows files (all_images packages) script
    named = subst (λ (x : List StaticImage). Follows files x script) (images_are packages members of)
        (subst (λ (x : List Files). Follows x (images_of members) script) (files_are packages members of) by_name)

    tokens : (n : ℕ) → run_by_token (loaded_together packages) script n ≡ narrow told script n
    tokens n =
        let free : (at : ℕ) → (narrow laid script n).outcome ≢ Stuck at =
        λ at. subst (λ (r : Report). r.outcome ≢ Stuck at) (same_code script n) (let both = named.never_stuck n at in
        both.1) in
        let sorted = sorted_code script n free in
        by_token n (λ at. subst (λ (r : Report). r.outcome ≢ Stuck at) (sym sorted) (free at))
        ∙ sorted ∙ sym (same_code script n)

    pub reports_agree : Agree 3 (run_group files (linked.images_of (group_of packages)) script)
        (run_by_token (loaded_together packages) script)
    reports_agree = subst (λ (x : List StaticImage). Agree 3 (run_group files x script)
        (run_by_token (loaded_together packages) script)) (sym (loaded_images packages))
        (agree_also 2 3 (λ n m le. omega (arith, le)) (run_group files (all_images packages) script)
        (narrow told script) (run_by_token (loaded_together packages) script) named tokens)
