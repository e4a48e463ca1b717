use Rattle.std.proofs.Common.{◌≡◌, map, take}
use Rattle.cjc_cmd_link.specs.Working.{linked_as}
use Rattle.cjc_cmd_link.proofs.members.linked_with.Given as goal

abbrev pub invariant-loop-place : goal.invariant-loop-place
invariant-loop-place l = l.group ≡ map linked_as (take l.place l.members)
