use Rattle.std.proofs.Common.{◌≡◌, false, take}
use Rattle.std.specs.List.{list_any}
use Rattle.cjc_exported.specs.World.Classes.{all_classes}
use Rattle.cjc_exported.specs.Components.Components.{has_int}
use Rattle.cjc_captree.proofs.LimitsLaws.IntMembers.{own}
use Rattle.cjc_captree.proofs.limits.ints.uses_int.Given as goal

abbrev pub invariant-loop-number : goal.invariant-loop-number
invariant-loop-number l = list_any (has_int (all_classes l.world)) (take l.number (own l.world)) ≡ false
