use Rattle.std.proofs.Common.{◌++◌, get_or}
use Rattle.std.proofs.lemmas.List.{get_or_default}
use Rattle.cjc_verify.specs.Offsets.{ats_by}
use Rattle.cjc_verify.proofs.InfosLaws.Ats.{ats_end, ats_more, ats_short}
use Rattle.cjc_verify.proofs.infos.offsets.put_classes.Goals as goal

pub loop-i-preserved : goal.loop-i-preserved
loop-i-preserved c =
    let files = c.args.world.now in
    let order = c.args.order.now in
    let i = c.loop-i.i in
    let n = get_or order i 0 in
    ats_more files order c.args.classes.now i n c.index-classes-i.result c.loop-i.row c.put_class.new.row
    (c.args.row.now ++ ats_by files order c.args.classes.now) c.loop-i-test.true
    (get_or_default order i 0 n c.loop-i-test.true) c.if-i-classes.false c.index-classes-i.is
    c.in_ok-put_class.ensures c.loop-i.invariant

pub returns-then-i-classes : goal.returns-then-i-classes
returns-then-i-classes c = ats_short c.args.world.now c.args.order.now c.args.classes.now c.loop-i.i c.loop-i.row
    (c.args.row.now ++ ats_by c.args.world.now c.args.order.now c.args.classes.now) c.if-i-classes.true
    c.loop-i.invariant

pub returns : goal.returns
returns c = ats_end c.args.world.now c.args.order.now c.args.classes.now c.loop-i.i c.loop-i.row (c.args.row.now
    ++ ats_by c.args.world.now c.args.order.now c.args.classes.now) c.loop-i-test.false c.loop-i.invariant
