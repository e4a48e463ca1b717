use Rattle.std.proofs.Common.{◌≡◌, ℕ, refl, sym, subst}
use Rattle.std.specs.Prelude.{◌≢◌, nat_lt, length}
use Rattle.cjc_token_proof.specs.CardSemantics.Machine.ByToken.{run as run_by_token}
use Rattle.cjc_components.specs.Paired.Naming.{loaded_of}
use Rattle.cjc_shape_proof.specs.LowerJudge.Rules.{has_applets, settings_of}
use Rattle.cjc_token_proof.specs.List.Listed.{ListTree}
use Rattle.cjc_token_proof.specs.Script.declared.report.Outcome.TheVariants.{Stuck}
use Rattle.cjc_token_proof.specs.Script.declared.report.Report.{Report}
use Rattle.cjc_token_proof.specs.Script.declared.script.Script.{Script}
use Rattle.cjc_theorem.proofs.AlikeLaws.Converted.{is_converted, own_checks, own_package, same_files}
use Rattle.cjc_theorem.proofs.alike.halves.components_run_as_selected_code.Goals as goal
use Rattle.cjc_theorem.specs.Alike.Halves.{run_by_label}
use Rattle.cjc_token_proof.specs.Tables.Loading.{components}

pub returns : goal.returns
returns c = λ list files judged of is p laid limits fair.
    let fair_laws = c.fair_exports_are_sound.ensures in
    let same = same_files list files judged of is p laid in
    let own = own_package list files judged of is p same in
    let checks = own_checks list files judged of is p same in
    let settings = settings_of list in
    let converted = is_converted list files judged of is p laid limits
    (fair_laws.sound list.name p.files judged.codes settings own checks)
    (fair_laws.plain list.name p.files judged.codes settings checks) (fair_laws.agree list.name p own fair) in
    let sends = fair_laws.send list.name p judged.codes settings own checks in
    let code = c.selected_code_behaves_alike.ensures list files judged of is p laid in
    let free : (script : Script) (n at : ℕ) → (run_by_label p script n).outcome ≢ Stuck at =
    λ script n at. ((code.alike script).never_stuck n at).1 in
    let equal : (script : Script) (n : ℕ) → run_by_token (loaded_of (has_applets list) p.files p.image (components p))
    script n ≡ run_by_label p script n =
    λ script n. subst (λ (l : ListTree). run_by_token (loaded_of (nat_lt 0 (length l.applets)) p.files p.image
    (components p)) script n ≡ run_by_label p script n) laid.is_package.by_list
    (c.converted_components_run_by_token.ensures list files judged p converted sends script n (free script n)) in
    record {
      components = components p;
      are_components = refl;
      equal = equal;
      never_stuck = λ script n at. (
        free script n at,
        subst (λ (r : Report). r.outcome ≢ Stuck at) (sym (equal script n)) (free script n at),
      );
    }
