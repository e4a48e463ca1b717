use Rattle.std.proofs.Common.{arith}
use Rattle.std.specs.Str.{bytes_eq}
use Rattle.cjc_group.proofs.Alike.{uneven}
use Rattle.cjc_group.proofs.trees.same_names.Goals as goal

pub returns-then-left-right : goal.returns-then-left-right
returns-then-left-right c =
    let test = c.if-left-right.true in
    uneven bytes_eq c.args.left.now c.args.right.now (λ e. absurd (omega (arith, test, e)))
