use Rattle.cjc_cmd_card.specs.Running.Ready.{tested}
use Rattle.cjc_cmd_card.proofs.RunningLaws.Order.{script_found, script_stops}
use Rattle.cjc_cmd_card.proofs.running.ready.read_script.Goals as goal

pub returns-in-Ok-clause-found : goal.returns-in-Ok-clause-found
returns-in-Ok-clause-found c = script_found c.args.name.now _ _ (rw c.items.ensures at c.in-Ok.ensures.exact)

pub behind_files-requires-clause-behind : goal.behind_files-requires-clause-behind
behind_files-requires-clause-behind c =
    let input = c.args.input.now in
    script_stops input c.args.name.now c.requires.input (c.files_first.ensures.files input.list input.files)
    (c.files_first.ensures.others input.list input.files tested) (c.parts_between.ensures input.parts)
    c.requires.parts _ (rw c.items.ensures at c.in-Err.ensures.exact)
