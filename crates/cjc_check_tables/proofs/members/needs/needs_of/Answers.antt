use Rattle.cjc_check_tables.proofs.MembersLaws.NeedsOf.{classes_more, classes_all}
use Rattle.cjc_check_tables.proofs.members.needs.needs_of.Goals as goal

pub loop-class-preserved : goal.loop-class-preserved
loop-class-preserved c = λ offset. classes_more c.loop-class.class-index c.class-item.result c.args.classes.now offset _
    _ _ c.loop-class-test.true c.class-item.is
    (c.in_ok-put_class.ensures offset) (c.loop-class.invariant offset)

pub returns : goal.returns
returns c = λ offset. classes_all c.loop-class.class-index c.args.classes.now offset _ _ c.loop-class-test.false
    (c.loop-class.invariant offset)
