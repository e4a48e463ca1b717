use Rattle.cjc_narrow_proof.proofs.SelectionLaws.Whole.{runs_agree}
use Rattle.cjc_narrow_proof.specs.Tables.Analysis.{table_of}
use Rattle.cjc_narrow_proof.proofs.TablesLaws.Package.{package_is_fine}
use Rattle.cjc_narrow_proof.proofs.tables.packages_run_alike.Goals as goal

pub returns-clause-rules : goal.returns-clause-rules
returns-clause-rules c = package_is_fine

pub returns-clause-runs : goal.returns-clause-runs
returns-clause-runs c by l w a is script = runs_agree by l (table_of l a) (package_is_fine by l w a is) script
