use Rattle.std.proofs.Common.{◌≡◌, arith, Some, None}
use Rattle.cjc_world.specs.Working.Known.{class_of}
use Rattle.cjc_tokens.specs.Members.{is_virtual}
use Rattle.cjc_tokens.specs.Slots.{own}
use Rattle.cjc_tokens.proofs.Walks.{first-found, first-passed, first-ended}
use Rattle.cjc_tokens.proofs.listed.nearest_virtual.Goals as goal

pub returns-in-Some : goal.returns-in-Some
returns-in-Some c =
    let e : Some c.in-Some.found ≡ own is_virtual (record { name = c.args.name.now; desc = c.args.desc.now })
    (class_of c.class-item.result) = grind arith in
    first-found (own is_virtual (record { name = c.args.name.now; desc = c.args.desc.now })) c.args.classes.now
    c.loop-class.class-index c.class-item.result c.in-Some.found c.loop-class-test.true c.class-item.is e
    c.loop-class.invariant

pub loop-class-preserved : goal.loop-class-preserved
loop-class-preserved c =
    let e : None ≡ own is_virtual (record { name = c.args.name.now; desc = c.args.desc.now })
    (class_of c.class-item.result) = grind arith in
    first-passed (own is_virtual (record { name = c.args.name.now; desc = c.args.desc.now })) c.args.classes.now
    c.loop-class.class-index c.class-item.result c.loop-class-test.true c.class-item.is e c.loop-class.invariant

pub returns : goal.returns
returns c = first-ended (own is_virtual (record { name = c.args.name.now; desc = c.args.desc.now })) c.args.classes.now
    c.loop-class.class-index c.loop-class-test.false c.loop-class.invariant
