use Rattle.cjc_cmd_make.proofs.ReportLaws.Ends.{judged_fault}
use Rattle.cjc_cmd_make.proofs.report.making.judge.Goals as goal

pub returns-in-Err : goal.returns-in-Err
returns-in-Err c = rw c.from.ensures (judged_fault c.args.number c.args.size _ c.in-Err.ensures.refused)
