use Rattle.cjc_cmd_convert.proofs.ShelfJudging.{gathers_judged}
use Rattle.cjc_cmd_make.specs.Report.Runs.{Makes}
use Rattle.cjc_cmd_make.proofs.report.making.gather_make.Goals as goal

pub returns : goal.returns
returns g c = gathers_judged (c.args.number, c.args.size) Makes _ _ c.judge.ensures
