use Rattle.std.proofs.Common.{◌≡◌, ◌+◌, ◌<◌, ◌^◌, length, sum_by}
use Rattle.cjc_check_rules.specs.Complete.{type_size}
use Rattle.cjc_check_rules.specs.Described.{types_at}
use Rattle.cjc_check_rules.specs.Spots.{item_at, placed}
use Rattle.cjc_card_acts.proofs.described.type_descriptor_at.Given as goal

abbrev pub invariant-loop-left : goal.invariant-loop-left
invariant-loop-left l = record {
  is : item_at (placed type_size l.at l.left) l.offset ≡ item_at (types_at l.descriptor) l.offset;
  small : l.at + sum_by type_size l.left < 2 ^ 32;
}

abbrev pub decreases-loop-left : goal.decreases-loop-left
decreases-loop-left l = length l.left
