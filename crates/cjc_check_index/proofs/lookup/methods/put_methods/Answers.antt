use Rattle.cjc_check_index.proofs.LookupLaws.MethodStarts.{offsets_more, offsets_all}
use Rattle.cjc_check_index.proofs.lookup.methods.put_methods.Goals as goal

pub loop-method-preserved : goal.loop-method-preserved
loop-method-preserved c = offsets_more c.args.only_static c.loop-method.method-index _ c.args.methods.now
    c.loop-method.offsets _ _ c.loop-method-test.true c.in_ok-put_method.ensures c.loop-method.invariant

pub returns : goal.returns
returns c = offsets_all c.args.only_static c.loop-method.method-index c.args.methods.now c.loop-method.offsets _
    c.loop-method-test.false c.loop-method.invariant
