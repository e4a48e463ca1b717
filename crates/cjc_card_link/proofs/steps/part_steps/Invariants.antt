use Rattle.std.proofs.Common.{◌≡◌, ◌+◌, drop}
use Rattle.cjc_card_semantics.specs.Machine.Classes.{part_steps}
use Rattle.cjc_card_link.proofs.steps.part_steps.Given as goal

abbrev pub invariant-loop-package : goal.invariant-loop-package
invariant-loop-package l = l.steps + part_steps (drop l.package-index l.packages) ≡ part_steps l.packages
