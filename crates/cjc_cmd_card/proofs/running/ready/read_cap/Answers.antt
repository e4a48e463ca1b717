use Rattle.cjc_cmd_card.specs.Running.Ready.{tested}
use Rattle.cjc_cmd_card.proofs.RunningLaws.Order.{parts_stop}
use Rattle.cjc_cmd_card.proofs.running.ready.read_cap.Goals as goal

pub behind_files-requires-clause-behind : goal.behind_files-requires-clause-behind
behind_files-requires-clause-behind c =
    let input = c.args.input.now in
    parts_stop input c.args.name.now c.requires (c.files_first.ensures.files input.list input.files)
    (c.files_first.ensures.others input.list input.files tested) (c.parts_between.ensures input.parts) _
    c.in-Err.ensures.refused
