use Rattle.std.proofs.Common.{◌≡◌, drop}
use Rattle.std.specs.List.{list_any}
use Rattle.cjc_world.specs.Classes.{all_classes}
use Rattle.cjc_world.specs.Rules.{has_cycle, is_own_super}
use Rattle.cjc_world.proofs.unchecked.UncheckedWorld.has_cycle.Given as goal

abbrev pub invariant-loop-place : goal.invariant-loop-place
invariant-loop-place l = list_any (λ c. is_own_super (all_classes l.self) c) (drop l.place (all_classes l.self))
    ≡ has_cycle (all_classes l.self)
