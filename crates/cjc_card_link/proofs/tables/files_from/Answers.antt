use Rattle.cjc_card_link.proofs.Gathering.{files_all, files_more}
use Rattle.cjc_card_link.proofs.tables.files_from.Goals as goal

pub loop-number-preserved : goal.loop-number-preserved
loop-number-preserved c = files_more c.loop-number.number c.args.count c.loop-number.imports _ _ c.loop-number-test.true
    c.in_ok-push.ensures.ok c.loop-number.invariant

pub returns : goal.returns
returns c = files_all c.loop-number.number c.args.count c.loop-number.imports _ c.loop-number-test.false
    c.loop-number.invariant
