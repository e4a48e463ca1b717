use Rattle.cjc_world.specs.Classes.{all_classes}
use Rattle.cjc_by_name.specs.ByName.{linked}
use Rattle.cjc_shrink.proofs.Whole.{runs_agree}
use Rattle.cjc_table_rules.specs.Analysis.{table_of}
use Rattle.cjc_table_rules.proofs.Package.{package_is_fine}
use Rattle.cjc_narrow_runs.specs.Tables.{look_ups, analysis}
use Rattle.cjc_narrow_runs.proofs.Converted.{is_package}
use Rattle.cjc_narrow_runs.proofs.narrow_code_runs_alike.Goals as goal

pub returns : goal.returns
returns c files image near tables is script =
    let l = look_ups files image near tables in
    let a = analysis files image near tables in
    runs_agree (linked files image) l (table_of l a) (package_is_fine (linked files image) l (all_classes files) a (is_package files image near tables is)) script
