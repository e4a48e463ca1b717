use Rattle.cjc_world.specs.Classes.{all_classes}
use Rattle.cjc_jvm_semantics.specs.ByName.{linked}
use Rattle.cjc_narrow_proof.proofs.SelectionLaws.Whole.{runs_agree}
use Rattle.cjc_narrow_proof.specs.Tables.Analysis.{table_of}
use Rattle.cjc_narrow_proof.proofs.TablesLaws.Package.{package_is_fine}
use Rattle.cjc_narrow_proof.specs.Runs.Tables.{look_ups, analysis}
use Rattle.cjc_narrow_proof.proofs.RunsLaws.Converted.{is_package}
use Rattle.cjc_narrow_proof.proofs.runs.narrow_code_runs_alike.Goals as goal

pub returns : goal.returns
returns c files image near tables is script =
    let l = look_ups files image near tables in
    let a = analysis files image near tables in
    runs_agree (linked files image) l (table_of l a) (package_is_fine (linked files image) l (all_classes files) a
    (is_package files image near tables is)) script
