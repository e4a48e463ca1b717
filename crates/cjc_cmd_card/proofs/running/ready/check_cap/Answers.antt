use Rattle.cjc_cmd_check.proofs.CheckingLaws.Sizes.{small_cap}
use Rattle.cjc_cmd_card.specs.Running.Ready.{tested}
use Rattle.cjc_cmd_card.proofs.RunningLaws.Order.{sentences_refused}
use Rattle.cjc_cmd_card.proofs.running.ready.check_cap.Goals as goal

pub consistent-requires : goal.consistent-requires
consistent-requires c = let input = c.args.input.now in small_cap input.parts c.args.cap c.requires.input.short
    c.requires.cap

pub returns-clause-refused : goal.returns-clause-refused
returns-clause-refused c =
    let input = c.args.input.now in
    sentences_refused input c.args.name.now c.requires.input (c.files_first.ensures.files input.list input.files)
    (c.files_first.ensures.others input.list input.files tested) (c.parts_between.ensures input.parts)
    c.requires.parts c.requires.script.0 c.requires.script.1 c.args.judged.now c.requires.judged c.args.cap
    c.requires.cap c.consistent.result (rw c.exports.ensures at c.consistent.ensures.refused)
