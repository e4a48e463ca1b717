use Rattle.std.proofs.Common.{◌≡◌, take}
use Rattle.cjc_judge.proofs.judged.lines_of.Given as goal

abbrev pub invariant-loop-line : goal.invariant-loop-line
invariant-loop-line l = l.lines ≡ take l.line-index l.list.lines
