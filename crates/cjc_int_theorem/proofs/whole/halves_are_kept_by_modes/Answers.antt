use Rattle.std.proofs.Common.{◌≡◌, ℕ, List, [], refl, sym, subst}
use Rattle.std.specs.Prelude.{◌≢◌, nat_lt, length}
use Rattle.cjc_check_proof.specs.TokenProof.Tables.Loading.{components}
use Rattle.cjc_classes.specs.List.Listed.{ListTree}
use Rattle.cjc_components.specs.Package.{Package}
use Rattle.cjc_components.specs.Paired.Naming.{loaded_of}
use Rattle.cjc_int_components.specs.Limits.{limit_breaks_by_modes}
use Rattle.cjc_narrow_proof.specs.CardSemantics.Machine.ByToken.{run as run_by_token}
use Rattle.cjc_narrow_proof.specs.Script.declared.report.Outcome.TheVariants.{Stuck}
use Rattle.cjc_narrow_proof.specs.Script.declared.report.Report.{Report}
use Rattle.cjc_narrow_proof.specs.Script.declared.script.Script.{Script}
use Rattle.cjc_shape.specs.LowerJudge.Rules.{has_applets}
use Rattle.cjc_shape.specs.Prepared.{IsSound}
use Rattle.cjc_shape.specs.Whole.Conversion.{IsPackageByModesOf}
use Rattle.cjc_shape_proof.specs.LowerJudge.Spelt.{IsRead}
use Rattle.cjc_shape_proof.specs.LowerJudge.declared.judged.Judged.{Judged}
use Rattle.cjc_theorem.specs.Alike.Halves.{run_by_label}
use Rattle.cjc_theorem.specs.FairExports.Fair.{ExportsAreFair}
use Rattle.cjc_int_theorem.specs.Halves.{CodeByModesBehavesAlike}
use Rattle.cjc_int_theorem.proofs.Judged.{converted, judged_passed}
use Rattle.cjc_int_theorem.proofs.SameCode.{selected_by_mode}
use Rattle.cjc_int_theorem.proofs.whole.halves_are_kept_by_modes.Goals as goal

code_behaves : goal.After-passed_packages_behave_by_modes → (list : ListTree) (files : List (List ℕ)) (judged : Judged)
    → IsRead list → IsSound list files judged → (p : Package) (is : IsPackageByModesOf list files p)
    → limit_breaks_by_modes is.tables p ≡ [] → (let world = p.files in ExportsAreFair world.exports)
    → CodeByModesBehavesAlike list p
code_behaves c list files judged read sound p is limits fair =
    let t = is.tables in
    let of = c.converted_packages_are_judged.ensures.judged list files judged read sound p is limits fair in
    let behaves = c.passed_packages_behave_by_modes.ensures list judged.codes t p (judged_passed list files judged t p
    of) in
    record {
      tables = t;
      are_its = is.has;
      selected = λ f m e plain. selected_by_mode list judged.codes t p (converted list files judged t p of) f m e plain;
      is_image = is.is_package.image;
      alike = λ script. c.components_by_modes_behave_as_class_files.ensures.labels list judged.codes t p behaves script;
    }

pub returns-clause-code : goal.returns-clause-code
returns-clause-code = code_behaves

pub returns-clause-components : goal.returns-clause-components
returns-clause-components c = λ list files judged read sound p is limits fair.
    let t = is.tables in
    let of = c.converted_packages_are_judged.ensures.judged list files judged read sound p is limits fair in
    let code = code_behaves c list files judged read sound p is limits fair in
    let free : (script : Script) (n at : ℕ) → (run_by_label p script n).outcome ≢ Stuck at =
    λ script n at. ((code.alike script).never_stuck n at).1 in
    let equal : (script : Script) (n : ℕ) → run_by_token (loaded_of (has_applets list) p.files p.image (components p))
    script n ≡ run_by_label p script n =
    λ script n. subst (λ (l : ListTree). run_by_token (loaded_of (nat_lt 0 (length l.applets)) p.files p.image
    (components p)) script n ≡ run_by_label p script n) is.is_package.by_list
    (c.components_by_modes_run_by_token.ensures list judged.codes t p (converted list files judged t p of) of.sends
    script n (free script n)) in
    record {
      components = components p;
      are_components = refl;
      equal = equal;
      never_stuck = λ script n at. (
        free script n at,
        subst (λ (r : Report). r.outcome ≢ Stuck at) (sym (equal script n)) (free script n at),
      );
    }
