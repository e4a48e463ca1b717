use Rattle.std.proofs.Common.{◌≡◌, take}
use Rattle.cjc_cmd_link.specs.Working.{worlds_of}
use Rattle.cjc_cmd_link.proofs.joint.packages_of.Given as goal

abbrev pub invariant-loop-member : goal.invariant-loop-member
invariant-loop-member l = l.packages ≡ worlds_of (take l.member-index l.members)
