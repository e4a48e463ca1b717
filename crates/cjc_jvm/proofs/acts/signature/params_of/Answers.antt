use Rattle.std.proofs.Common.{◌<◌, length, arith}
use Rattle.cjc_jvm.proofs.ActsLaws.Parameters.{types_more}
use Rattle.cjc_jvm.proofs.acts.signature.params_of.Goals as goal

pub loop-i-preserved : goal.loop-i-preserved
loop-i-preserved c =
    let inside : c.loop-i.i < length c.args.desc.now.params = omega arith in
    types_more c.args.desc.now c.loop-i.sorts c.push.new.self c.in_ok-sort_at.field-0 c.loop-i.i inside
    c.loop-i.invariant c.in_ok-push.ensures.ok c.in_ok-sort_at.ensures
