use Rattle.std.proofs.Common.{length, sym, ◌∙◌, ap}
use Rattle.cjc_types.proofs.Parts.{alike_step}
use Rattle.cjc_types.proofs.operands.are_alike.Goals as goal

pub loop-i-preserved : goal.loop-i-preserved
loop-i-preserved c =
    alike_step c.args.left.now c.args.right.now c.loop-i.i c.index-left-i.result c.index-right-i.result
    c.loop-i-test.true c.if-left-right.false c.index-left-i.is c.index-right-i.is
    (ap length (sym c.items.ensures) ∙ c.if-items.false ∙ ap length c.items-in-loop-i.ensures) c.loop-i.invariant
