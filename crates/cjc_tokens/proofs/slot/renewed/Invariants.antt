use Rattle.std.proofs.Common.{map, take}
use Rattle.cjc_world.specs.Classes.{declared}
use Rattle.cjc_tokens.specs.Working.{Renewed, member_of}
use Rattle.cjc_tokens.proofs.slot.renewed.Given as goal

abbrev pub invariant-loop-slot : goal.invariant-loop-slot
invariant-loop-slot l = Renewed (declared l.number l.class) (map member_of l.added) l.hidden (take l.slot-index l.above)
    l.row.items
