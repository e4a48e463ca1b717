use Rattle.cjc_make_report.proofs.Ends.{judged_fault}
use Rattle.cjc_make_report.proofs.making.judge.Goals as goal

pub returns-in-Err : goal.returns-in-Err
returns-in-Err c = rw c.from.ensures (judged_fault c.args.number c.args.size _ c.in-Err.ensures.refused)
