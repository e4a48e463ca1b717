use Rattle.std.proofs.Common.{◌≡◌, ◌++◌, take}
use Rattle.cjc_cmd_link.proofs.joint.put_files.Given as goal

abbrev pub invariant-loop-file : goal.invariant-loop-file
invariant-loop-file l = l.files ≡ l.initial.files ++ take l.file-index l.more
