use Rattle.cjc_jvm_semantics.specs.ByName.{linked}
use Rattle.cjc_narrow_proof.specs.Runs.Tables.{analysis, look_ups}
use Rattle.cjc_narrow_proof.proofs.RunsLaws.Converted.{is_package}
use Rattle.cjc_narrow_proof.proofs.SelectionLaws.Whole.{runs_agree}
use Rattle.cjc_narrow_proof.specs.Tables.Analysis.{table_of}
use Rattle.cjc_narrow_proof.proofs.TablesLaws.Package.{package_is_fine}
use Rattle.cjc_theorem.proofs.WholeRuns.Runs.{image_is, whole_is}
use Rattle.cjc_theorem.proofs.whole_runs.whole_packages_run_alike.Goals as goal
use Rattle.cjc_world.specs.Classes.{all_classes}

pub returns-clause-first : goal.returns-clause-first
returns-clause-first c = λ list files codes settings tables whole image is fine near. image_is list files codes settings
    tables whole image is fine near

pub returns-clause-runs : goal.returns-clause-runs
returns-clause-runs c = λ list files codes settings tables whole image is fine near script.
    (let l = look_ups files image near tables in
    let a = analysis files image near tables in
    runs_agree (linked files image) l (table_of l a) (package_is_fine (linked files image) l (all_classes files) a
    (is_package files image near tables (whole_is list files codes settings tables whole image is fine near)))
    script)
