use Rattle.cjc_token_proof.specs.CardSemantics.Machine.ByToken.{run as run_by_token}
use Rattle.cjc_components.specs.Paired.Naming.{loaded_of}
use Rattle.cjc_shape_proof.specs.LowerJudge.Rules.{has_applets, settings_of}
use Rattle.cjc_jvm_semantics.specs.ByName.{run as run_by_name}
use Rattle.cjc_theorem.proofs.AlikeLaws.Agreeing.{agree_also}
use Rattle.cjc_shape_proof.proofs.ShapeSecond.{ints_of}
use Rattle.cjc_theorem.proofs.AlikeLaws.Converted.{is_converted, own_checks, own_package}
use Rattle.cjc_theorem.proofs.alike.converted_packages_behave_alike.Goals as goal
use Rattle.cjc_theorem.specs.Alike.Halves.{run_by_label}

pub returns-clause-alike : goal.returns-clause-alike
returns-clause-alike c = λ list files judged of is p laid limits fair.
    let code = c.selected_code_behaves_alike.ensures list files judged of is p laid (ints_of p limits) in
    let run = c.components_run_as_selected_code.ensures list files judged of is p laid limits fair in
    record {
      image = p.image;
      is_image = code.is_image;
      components = run.components;
      are_components = run.are_components;
      alike = λ script. agree_also (run_by_name p.files p.image script) (run_by_label p script)
          (run_by_token (loaded_of (has_applets list) p.files p.image run.components) script) (code.alike script)
          (run.equal script);
    }

pub returns-clause-consistent : goal.returns-clause-consistent
returns-clause-consistent c = λ list files judged of is p laid limits fair.
    let fair_laws = c.fair_exports_are_sound.ensures in
    let own = own_package list files judged of is p laid in
    let checks = own_checks list files judged of is p laid in
    let settings = settings_of list in
    let converted = is_converted list files judged of is p laid limits
    (fair_laws.sound list.name p.files judged.codes settings own checks)
    (fair_laws.plain list.name p.files judged.codes settings checks) (fair_laws.agree list.name p own fair) in
    c.names_are_met.ensures.consistent list files judged p converted
