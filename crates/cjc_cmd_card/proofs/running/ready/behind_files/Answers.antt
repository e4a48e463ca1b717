use Rattle.cjc_cmd_card.specs.Running.Ready.{tested}
use Rattle.cjc_cmd_card.proofs.RunningLaws.Order.{files_stop}
use Rattle.cjc_cmd_card.proofs.running.ready.behind_files.Goals as goal

pub returns-in-Ok : goal.returns-in-Ok
returns-in-Ok c = c.requires.behind c.in-Ok.ensures.unbroken

pub returns-in-Err : goal.returns-in-Err
returns-in-Err c =
    let input = c.args.input.now in
    files_stop input c.args.name.now c.requires.input (c.files_first.ensures.files input.list input.files)
    (c.files_first.ensures.others input.list input.files tested) (c.parts_between.ensures input.parts) _
    c.in-Err.ensures.refused
