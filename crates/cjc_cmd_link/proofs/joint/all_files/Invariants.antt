use Rattle.std.proofs.Common.{◌≡◌, take}
use Rattle.std.specs.List.{flat_map}
use Rattle.cjc_cmd_link.specs.Working.{texts_of}
use Rattle.cjc_cmd_link.proofs.joint.all_files.Given as goal

abbrev pub invariant-loop-member : goal.invariant-loop-member
invariant-loop-member l = l.files ≡ flat_map texts_of (take l.member-index l.members)
