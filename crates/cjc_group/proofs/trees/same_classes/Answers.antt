use Rattle.std.proofs.Common.{arith}
use Rattle.cjc_group.specs.Trees.{same_class}
use Rattle.cjc_group.proofs.Alike.{uneven}
use Rattle.cjc_group.proofs.trees.same_classes.Goals as goal

pub returns-then-left-right : goal.returns-then-left-right
returns-then-left-right c =
    let test = c.if-left-right.true in
    uneven same_class c.args.left.now c.args.right.now (λ e. absurd (omega (arith, test, e)))
