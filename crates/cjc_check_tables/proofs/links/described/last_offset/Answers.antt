use Rattle.cjc_check_tables.proofs.LinksLaws.Ascents.{last_more, last_all}
use Rattle.cjc_check_tables.proofs.links.described.last_offset.Goals as goal

pub loop-method-preserved : goal.loop-method-preserved
loop-method-preserved c = last_more c.loop-method.last c.loop-method.method-index _ c.args.methods.now _
    c.loop-method-test.true c.loop-method.invariant

pub returns : goal.returns
returns c = last_all c.loop-method.last c.loop-method.method-index c.args.methods.now _ c.loop-method-test.false
    c.loop-method.invariant
