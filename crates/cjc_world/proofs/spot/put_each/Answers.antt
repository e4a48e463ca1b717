use Rattle.std.proofs.Common.{◌+◌, ◌-◌, ◌++◌, ap, ◌∙◌}
use Rattle.cjc_world.specs.Working.Spots.{spots_from}
use Rattle.cjc_world.proofs.Indexing.{spots_step, spots_end}
use Rattle.cjc_world.proofs.spot.put_each.Goals as goal

pub loop-class-preserved : goal.loop-class-preserved
loop-class-preserved c =
    ap (λ new. new ++ spots_from c.args.place c.args.number (c.loop-class.class + 1)
    (c.args.count - (c.loop-class.class + 1))) c.in_ok-push.ensures.items
    ∙ spots_step c.loop-class.spots.items c.args.place c.args.number c.loop-class.class c.args.count
    c.loop-class-test.true
    ∙ c.loop-class.invariant

pub returns : goal.returns
returns c = spots_end c.loop-class.spots.items c.args.place c.args.number c.loop-class.class c.args.count
    c.loop-class-test.false ∙ c.loop-class.invariant
