use Rattle.std.proofs.Common.{◌≡◌, ◌+◌, drop}
use Rattle.cjc_card_semantics.specs.Machine.Classes.{class_steps}
use Rattle.cjc_card_link.proofs.steps.class_steps.Given as goal

abbrev pub invariant-loop-class : goal.invariant-loop-class
invariant-loop-class l = l.steps + class_steps (drop l.class-index l.classes) ≡ class_steps l.classes
