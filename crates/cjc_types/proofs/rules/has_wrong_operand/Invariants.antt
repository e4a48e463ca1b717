use Rattle.std.proofs.Common.{◌≡◌, drop}
use Rattle.cjc_world.specs.Classes.{all_classes}
use Rattle.cjc_types.specs.Rules.{has_wrong}
use Rattle.cjc_types.proofs.rules.has_wrong_operand.Given as goal

abbrev pub invariant-loop-k : goal.invariant-loop-k
invariant-loop-k l = has_wrong (all_classes l.world) l.method l.op l.count l.k (drop l.k l.stack)
    ≡ has_wrong (all_classes l.world) l.method l.op l.count 0 l.stack
