use Rattle.std.proofs.Common.{map, take}
use Rattle.cjc_world.specs.Classes.{declared}
use Rattle.cjc_tokens.specs.Members.{signature_of}
use Rattle.cjc_tokens.specs.Slots.{got}
use Rattle.cjc_tokens.specs.Working.{Offered, member_of}
use Rattle.cjc_tokens.proofs.slot.offer_added.Given as goal

abbrev pub invariant-loop-id : goal.invariant-loop-id
invariant-loop-id l = Offered (map signature_of (map member_of (take l.id-index l.added)))
    (λ s. got (map member_of l.added) s (declared l.number l.class)) l.initial.row.items l.row.items
