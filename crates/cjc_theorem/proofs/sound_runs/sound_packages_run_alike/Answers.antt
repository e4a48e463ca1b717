use Rattle.std.proofs.Common.{subst}
use Rattle.cjc_shape_proof.specs.LowerJudge.Rules.{settings_of}
use Rattle.cjc_shape_proof.specs.LowerShape.Whole.Conversion.{AreShort}
use Rattle.cjc_theorem.proofs.SoundRuns.Alike.{draft_runs, own_tables, whole}
use Rattle.cjc_theorem.proofs.SoundRuns.Drafts.{by_draft, by_package}
use Rattle.cjc_theorem.proofs.sound_runs.sound_packages_run_alike.Goals as goal
use Rattle.cjc_shape_proof.proofs.ShapeDrafts.{same_spelt}

pub returns-clause-tabled : goal.returns-clause-tabled
returns-clause-tabled c = λ list files judged of is short sound. (
  own_tables list files judged is c.least_ranges_exist.ensures,
  whole list files judged is c.least_ranges_exist.ensures of sound short,
)

pub returns-clause-drafts : goal.returns-clause-drafts
returns-clause-drafts c = λ list files judged of is short sound p draft image script.
    draft_runs list files judged is c.least_ranges_exist.ensures of sound p
    (by_draft list files judged is p draft short)
    (c.whole_packages_run_alike.ensures.runs list.name judged.world judged.codes (settings_of list)
    (own_tables list files judged is c.least_ranges_exist.ensures) (whole list files judged is
    c.least_ranges_exist.ensures of sound short)) image script

pub returns-clause-packages : goal.returns-clause-packages
returns-clause-packages c = λ list files judged of is sound p laid script.
    (let written = laid.is_package in
    let short = subst (λ w. AreShort list.ints w) (same_spelt list files judged is p.files laid.rows laid.spelt)
    laid.short in
    draft_runs list files judged is c.least_ranges_exist.ensures of sound p (by_package list files p laid)
    (c.whole_packages_run_alike.ensures.runs list.name judged.world judged.codes (settings_of list)
    (own_tables list files judged is c.least_ranges_exist.ensures) (whole list files judged is
    c.least_ranges_exist.ensures of sound short)) written.image script)
