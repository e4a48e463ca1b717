use Rattle.cjc_cmd_link.proofs.Answered.{given_fault}
use Rattle.cjc_cmd_link.specs.Runs.{report_by_name}
use Rattle.cjc_cmd_link.proofs.running.judge_names.Goals as goal

pub returns-in-Err : goal.returns-in-Err
returns-in-Err c =
    rw c.from.ensures (given_fault (λ members tree. report_by_name members tree c.args.n) c.args.name.now
    c.args.script.now c.args.input.now c.in-Err.fault c.in-Err.ensures.refused)
