use Rattle.std.proofs.Common.{◌≡◌, ◌+◌, drop, map}
use Rattle.cjc_card_semantics.specs.Machine.Classes.{IsInterface, info_steps}
use Rattle.cjc_card_link.proofs.steps.interface_steps.Given as goal

abbrev pub invariant-loop-entry : goal.invariant-loop-entry
invariant-loop-entry l = l.steps + info_steps (map IsInterface (drop l.entry-index l.entries))
    ≡ info_steps (map IsInterface l.entries)
