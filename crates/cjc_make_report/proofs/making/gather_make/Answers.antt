use Rattle.cjc_command.proofs.Judging.{gathers_judged}
use Rattle.cjc_make_report.specs.Runs.{Makes}
use Rattle.cjc_make_report.proofs.making.gather_make.Goals as goal

pub returns : goal.returns
returns g c = gathers_judged (c.args.number, c.args.size) Makes _ _ c.judge.ensures
