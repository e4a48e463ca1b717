use Rattle.std.proofs.Common.{drop, sym, ◌∙◌}
use Rattle.cjc_world.specs.Classes.{all_classes}
use Rattle.cjc_types.proofs.Wrong.{wrong_past}
use Rattle.cjc_types.proofs.rules.has_wrong_operand.Goals as goal

pub returns : goal.returns
returns c =
    sym (wrong_past (all_classes c.args.world.now) c.args.method.now c.args.op.now c.args.count c.loop-k.k
    (drop c.loop-k.k c.args.stack.now) c.loop-k-test.false) ∙ c.loop-k.invariant
