use Rattle.std.proofs.Common.{◌≡◌, [], sym, ap, ◌∙◌, subst, arith, Some}
use Rattle.cjc_token_proof.specs.CheckRules.Complete.{Complete}
use Rattle.cjc_check_proof.specs.Consistent.Premises.{HasSoundMethods}
use Rattle.cjc_components.specs.Limits.{else_of, form_breaks, limit_breaks, size_breaks}
use Rattle.cjc_components.specs.Names.{names}
use Rattle.cjc_components.specs.Paired.Naming.{loaded_of}
use Rattle.cjc_jvm_semantics.specs.ByName.{run as run_by_name}
use Rattle.cjc_narrow_proof.specs.CardSemantics.Bytecode.Runs.{Agree}
use Rattle.cjc_narrow_proof.specs.CardSemantics.Machine.ByToken.{run as run_by_token}
use Rattle.cjc_shape.specs.LowerJudge.Rules.{has_applets}
use Rattle.cjc_theorem.proofs.AlikeLaws.Agreeing.{agree_also}
use Rattle.cjc_theorem.specs.Alike.Halves.{run_by_label}
use Rattle.cjc_int_theorem.proofs.Judged.{converted}
use Rattle.cjc_int_theorem.proofs.whole.converted_packages_behave_alike.Goals as goal

same_some : (a b : Complete) → Some a ≡ Some b → a ≡ b
same_some a b e = cc

pub returns-clause-alike : goal.returns-clause-alike
returns-clause-alike c = λ list files judged read sound p is limits fair.
    let halves = c.halves_are_kept_by_modes.ensures in
    let code = halves.code list files judged read sound p is limits fair in
    let run = halves.components list files judged read sound p is limits fair in
    record {
      image = p.image;
      is_image = code.is_image;
      components = run.components;
      are_components = run.are_components;
      alike = λ script. agree_also 4096 4096 (λ n m le. le) (run_by_name p.files p.image script)
          (run_by_label p script) (run_by_token (loaded_of (has_applets list) p.files p.image run.components) script)
          (code.alike script) (run.equal script);
      closely = λ short script.
          (let law = c.packages_in_short_mode_are_as_before.ensures in
          let of = law.short list files judged sound p is short in
          let none : limit_breaks p ≡ [] = ap (λ words. else_of words (else_of (form_breaks p) (size_breaks p)))
          (sym (law.words list files judged sound p is short)) ∙ limits in
          let selected = c.selected_code_behaves_alike.ensures list files judged read sound p of in
          let token = c.components_run_as_selected_code.ensures list files judged read sound p of none fair in
          let same : token.components ≡ run.components = same_some token.components run.components
          (sym token.are_components ∙ run.are_components) in
          subst (λ (whole : Complete). Agree 3 (run_by_name p.files p.image script)
          (run_by_token (loaded_of (has_applets list) p.files p.image whole) script)) same
          (agree_also 2 3 (λ n m le. omega (arith, le)) (run_by_name p.files p.image script) (run_by_label p script)
          (run_by_token (loaded_of (has_applets list) p.files p.image token.components) script) (selected.alike script)
          (token.equal script)));
    }

pub returns-clause-consistent : goal.returns-clause-consistent
returns-clause-consistent c = λ list files judged read sound p is limits fair.
    let t = is.tables in
    let its = c.converted_packages_are_judged.ensures in
    let of = its.judged list files judged read sound p is limits fair in
    let laid = its.laid list files judged read sound p is limits in
    let named = its.files list files judged read sound p is limits fair in
    let made = c.methods_by_modes_are_made.ensures.made list judged.codes t p (converted list files judged t p of) in
    let law = c.methods_by_modes_are_consistent.ensures in
    let methods : HasSoundMethods p = record {
      methods = is.is_package.members;
      written = law.written (names p) p.files p.methods made;
      inside = law.inside (names p) p.files p.methods made;
      handlers = law.handlers (names p) p.files p.methods made;
    } in
    c.components_by_modes_are_consistent.ensures t p (let world = p.files in world.exports)
    (c.components_of_files_are_consistent.ensures list files judged p laid named of.sizes methods
    (law.kinds (names p) p.files p.methods made) (c.names_are_met.ensures.met list files judged p laid named))
