use Rattle.std.proofs.Common.{◌≡◌, [], drop}
use Rattle.cjc_group.specs.Grouped.{with_lines}
use Rattle.cjc_group.proofs.read.read_lines.Given as goal

abbrev pub invariant-loop-line : goal.invariant-loop-line
invariant-loop-line l = with_lines l.packages (drop l.line-index l.lines) ≡ with_lines [] l.lines
