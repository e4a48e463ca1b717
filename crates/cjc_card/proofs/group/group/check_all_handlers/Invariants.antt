use Rattle.std.proofs.Common.{◌≡◌, drop, map}
use Rattle.cjc_card_calls.specs.LowerCardLink.Group.{group_part}
use Rattle.cjc_card_calls.specs.Lines.Handlers.{are_parts_near}
use Rattle.cjc_card.proofs.group.group.check_all_handlers.Given as goal

abbrev pub invariant-loop-part : goal.invariant-loop-part
invariant-loop-part l =
    are_parts_near (map group_part (drop l.part-index l.parts)) ≡ are_parts_near (map group_part l.parts)
