use Rattle.std.proofs.Common.{◌≡◌, map, take}
use Rattle.cjc_cmd_jvm.proofs.running.reads.names_of.Given as goal

abbrev pub invariant-loop-line : goal.invariant-loop-line
invariant-loop-line l = l.names ≡ map (λ line. line.name) (take l.line-index l.lines)
