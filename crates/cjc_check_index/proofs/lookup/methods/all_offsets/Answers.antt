use Rattle.cjc_check_index.proofs.LookupLaws.MethodStarts.{classes_more, classes_all}
use Rattle.cjc_check_index.proofs.lookup.methods.all_offsets.Goals as goal

pub loop-class-preserved : goal.loop-class-preserved
loop-class-preserved c = classes_more c.args.only_static c.args.names.now.parts.now.class.now c.loop-class.class-index
    c.class-item.result c.args.classes.now c.loop-class.offsets _ _ c.loop-class-test.true c.class-item.is
    c.in_ok-put_class.ensures c.loop-class.invariant

pub returns : goal.returns
returns c = classes_all c.args.only_static c.args.names.now.parts.now.class.now c.loop-class.class-index
    c.args.classes.now c.loop-class.offsets _ c.loop-class-test.false c.loop-class.invariant
