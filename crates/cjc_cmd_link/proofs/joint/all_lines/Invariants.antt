use Rattle.std.proofs.Common.{◌≡◌, take}
use Rattle.std.specs.List.{flat_map}
use Rattle.cjc_cmd_link.specs.Working.{lines_of}
use Rattle.cjc_cmd_link.proofs.joint.all_lines.Given as goal

abbrev pub invariant-loop-member : goal.invariant-loop-member
invariant-loop-member l = l.lines ≡ flat_map lines_of (take l.member-index l.members)
