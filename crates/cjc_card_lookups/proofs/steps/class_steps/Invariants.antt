use Rattle.std.proofs.Common.{◌≡◌, ◌+◌, drop}
use Rattle.cjc_card.specs.Classes.{class_steps}
use Rattle.cjc_card_lookups.proofs.steps.class_steps.Given as goal

abbrev pub invariant-loop-class : goal.invariant-loop-class
invariant-loop-class l = l.steps + class_steps (drop l.class-index l.classes) ≡ class_steps l.classes
