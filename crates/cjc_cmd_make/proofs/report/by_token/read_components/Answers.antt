use Rattle.cjc_cmd_card.specs.Running.Reads.{plan_of_card}
use Rattle.cjc_cmd_make.proofs.ReportLaws.Ends.{gathered, read_fault}
use Rattle.cjc_cmd_make.specs.Report.Package.{folder, list_name, script_name}
use Rattle.cjc_cmd_make.proofs.report.by_token.read_components.Goals as goal

pub returns-in-Ok-clause-read : goal.returns-in-Ok-clause-read
returns-in-Ok-clause-read c = gathered (plan_of_card list_name folder script_name) c.args.shelf.now _ _
    c.in-Ok.ensures.gathers

pub returns-in-Err-clause-refused : goal.returns-in-Err-clause-refused
returns-in-Err-clause-refused c = rw c.fault_of.ensures (read_fault (plan_of_card list_name folder script_name)
    c.args.shelf.now _ _ c.in-Err.ensures.gathers)
