use Rattle.std.proofs.Common.{◌≡◌, length}
use Rattle.cjc_cmd_convert.specs.Publication.{behind_slash, last_part}
use Rattle.cjc_cmd_convert.proofs.publication.files.last_part.Given as goal

abbrev pub invariant-loop-left : goal.invariant-loop-left
invariant-loop-left l = behind_slash l.part l.left ≡ last_part l.name

abbrev pub decreases-loop-left : goal.decreases-loop-left
decreases-loop-left l = length l.left
