use Rattle.cjc_shelf.proofs.CommandLaws.Ahead.{writes_none, writes_more}
use Rattle.cjc_shelf.proofs.command.publishing.write_all.Goals as goal

pub loop-at-init : goal.loop-at-init
loop-at-init g c = writes_none _

pub loop-at-preserved : goal.loop-at-preserved
loop-at-preserved g c =
    let w = rw (c.items.ensures, c.items-in-loop-at.ensures) at c.in-Ok.ensures in
    writes_more _ _ c.index-files-at.result _ _ _ c.loop-at-test.true c.index-files-at.is c.loop-at.invariant w
