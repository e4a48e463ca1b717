use Rattle.std.proofs.Common.{◌≡◌, take}
use Rattle.cjc_convert.proofs.conversion.lines_of.Given as goal

abbrev pub invariant-loop-line : goal.invariant-loop-line
invariant-loop-line l = l.lines ≡ take l.line-index l.list.lines
