use Rattle.std.proofs.Common.{◌≡◌, drop}
use Rattle.cjc_tokens.specs.Slots.{has_slot}
use Rattle.cjc_tokens.specs.Working.{signs}
use Rattle.cjc_tokens.proofs.slot.has_slot.Given as goal

abbrev pub invariant-loop-slot : goal.invariant-loop-slot
invariant-loop-slot l = has_slot (signs (drop l.slot-index l.row)) (record { name = l.name; desc = l.desc })
    ≡ has_slot (signs l.row) (record { name = l.name; desc = l.desc })
