use Rattle.cjc_shape_proof.specs.LowerJudge.Rules.{settings_of}
use Rattle.cjc_theorem.proofs.AlikeLaws.Converted.{judged_checks, judged_package}
use Rattle.cjc_theorem.proofs.SoundRuns.Alike.{selected_code}
use Rattle.cjc_theorem.proofs.SoundRuns.Drafts.{by_package}
use Rattle.cjc_theorem.proofs.alike.halves.selected_code_behaves_alike.Goals as goal

pub returns : goal.returns
returns c = λ list files judged of is p laid.
    let exports = c.fair_exports_are_sound.ensures.sound list.name judged.world judged.codes (settings_of list)
    (judged_package list files judged of is) (judged_checks list files judged of is) in
    record {
      rows = laid.rows;
      are_least = laid.spelt.least;
      selected = selected_code list files judged is c.least_ranges_exist.ensures of exports p
          (by_package list files p laid);
      is_image = laid.is_package.image;
      alike = λ script. c.sound_packages_run_alike.ensures.packages list files judged of is exports p laid script;
    }
