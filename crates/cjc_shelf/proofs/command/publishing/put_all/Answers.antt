use Rattle.cjc_shelf.proofs.CommandLaws.Ahead.{puts_none, puts_more, puts_end, concat_parts, concat_more}
use Rattle.cjc_shelf.proofs.command.publishing.put_all.Goals as goal

pub loop-line-init : goal.loop-line-init
loop-line-init g c = puts_none _

pub returns-in-Err : goal.returns-in-Err
returns-in-Err g c =
    let put = rw c.items.ensures at c.in-Err.ensures in
    rw (concat_parts _ _ c.line-item.result c.loop-line-test.true c.line-item.is) (puts_end _ _ _ _ _ _ _
    c.loop-line.invariant put)

pub loop-line-preserved : goal.loop-line-preserved
loop-line-preserved g c =
    let put = rw c.items.ensures at c.in-Ok.ensures in
    rw (concat_more _ _ c.line-item.result c.loop-line-test.true c.line-item.is)
    (puts_more _ _ _ _ _ c.loop-line.invariant put)
