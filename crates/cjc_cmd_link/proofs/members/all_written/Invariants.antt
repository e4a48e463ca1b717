use Rattle.std.proofs.Common.{◌≡◌, map, take}
use Rattle.cjc_cmd_link.specs.Working.{written_of}
use Rattle.cjc_cmd_link.proofs.members.all_written.Given as goal

abbrev pub invariant-loop-member : goal.invariant-loop-member
invariant-loop-member l = l.trees ≡ map written_of (take l.member-index l.members)
