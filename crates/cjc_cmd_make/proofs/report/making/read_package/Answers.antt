use Rattle.cjc_cmd_card.specs.Shelf.Command.Gather.{IsSame}
use Rattle.cjc_cmd_make.proofs.ReportLaws.Ends.{files_stay, gathered, read_fault}
use Rattle.cjc_cmd_make.specs.Report.Package.{list_name, script_name}
use Rattle.cjc_cmd_card.specs.LowerCmdJvm.Running.Reads.{plan_of_run}
use Rattle.cjc_cmd_make.proofs.report.making.read_package.Goals as goal

pub returns-in-Ok-clause-kept : goal.returns-in-Ok-clause-kept
returns-in-Ok-clause-kept c = files_stay (plan_of_run list_name script_name) IsSame _ _ _ c.in-Ok.ensures.gathers

pub returns-in-Ok-clause-read : goal.returns-in-Ok-clause-read
returns-in-Ok-clause-read c = gathered (plan_of_run list_name script_name) c.args.shelf.now _ _ c.in-Ok.ensures.gathers

pub returns-in-Err-clause-kept : goal.returns-in-Err-clause-kept
returns-in-Err-clause-kept c = files_stay (plan_of_run list_name script_name) IsSame _ _ _ c.in-Err.ensures.gathers

pub returns-in-Err-clause-refused : goal.returns-in-Err-clause-refused
returns-in-Err-clause-refused c = rw c.fault_of.ensures (read_fault (plan_of_run list_name script_name)
    c.args.shelf.now _ _ c.in-Err.ensures.gathers)
