use Rattle.cjc_check.specs.Codes.Bodies.{code_of}
use Rattle.cjc_check_rules.specs.Instructions.{code_spots}
use Rattle.cjc_check.proofs.JumpsLaws.Flat.{flat_all, flat_more}
use Rattle.cjc_check.proofs.jumps.jumps.jump_spot.Goals as goal

pub loop-body-preserved : goal.loop-body-preserved
loop-body-preserved c = rw c.earlier-least.ensures (flat_more code_of code_spots c.loop-body.body-index
    c.body-item.result c.args.bodies.now c.loop-body.least c.code_spots.result _ c.loop-body-test.true c.body-item.is
    c.code_spots.ensures c.loop-body.invariant)

pub returns : goal.returns
returns c = flat_all code_of code_spots c.loop-body.body-index c.args.bodies.now c.loop-body.least _
    c.loop-body-test.false c.loop-body.invariant
