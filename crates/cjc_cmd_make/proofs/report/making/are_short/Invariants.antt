use Rattle.std.proofs.Common.{◌≤◌, ◌^◌, All, length, take}
use Rattle.cjc_cmd_make.proofs.report.making.are_short.Given as goal

abbrev pub invariant-loop-bytes : goal.invariant-loop-bytes
invariant-loop-bytes l = All (λ bytes. length bytes ≤ 2 ^ 29) (take l.bytes-index l.files)
