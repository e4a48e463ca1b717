use Rattle.cjc_cmd_card.specs.Running.Ready.{tested}
use Rattle.cjc_cmd_card.proofs.RunningLaws.Order.{package_refused}
use Rattle.cjc_cmd_card.proofs.running.ready.judge_package.Goals as goal

pub returns-clause-refused : goal.returns-clause-refused
returns-clause-refused c =
    let input = c.args.input.now in
    package_refused input c.args.name.now c.requires.input (c.files_first.ensures.files input.list input.files)
    (c.files_first.ensures.others input.list input.files tested) (c.parts_between.ensures input.parts)
    c.requires.parts c.requires.script.0 c.requires.script.1 c.judge.result c.judge.ensures.refused
