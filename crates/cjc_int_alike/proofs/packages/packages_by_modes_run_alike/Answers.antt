use Rattle.cjc_world.specs.Classes.{all_classes}
use Rattle.cjc_jvm_semantics.specs.ByName.{linked}
use Rattle.cjc_narrow_proof.specs.Tables.Analysis.{table_of}
use Rattle.cjc_int_runs.proofs.Packages.{package_agrees}
use Rattle.cjc_int_alike.specs.ByModes.{analysis_by_mode, bodies_by_mode, look_ups_by_mode, result_in}
use Rattle.cjc_int_alike.proofs.Converted.{is_package}
use Rattle.cjc_int_alike.proofs.Package.{package_fine}
use Rattle.cjc_int_alike.proofs.packages.packages_by_modes_run_alike.Goals as goal

pub returns-clause-fine : goal.returns-clause-fine
returns-clause-fine c = λ files image near tables is_int is.
    package_fine (linked files image) (look_ups_by_mode files image near tables is_int) (all_classes files)
    (analysis_by_mode files image near tables is_int) (bodies_by_mode files image near tables is_int)
    (result_in files image near tables is_int) (is_package files image near tables is_int is)

pub returns-clause-runs : goal.returns-clause-runs
returns-clause-runs c = λ files image near tables is_int is script.
    (let by = linked files image in
    let l = look_ups_by_mode files image near tables is_int in
    let a = analysis_by_mode files image near tables is_int in
    let bodies = bodies_by_mode files image near tables is_int in
    let results = result_in files image near tables is_int in
    package_agrees by l (table_of l a) bodies results (package_fine by l (all_classes files) a bodies results
    (is_package files image near tables is_int is)) script)
