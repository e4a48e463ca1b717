use Rattle.std.proofs.Common.{◌≡◌, drop}
use Rattle.cjc_list.specs.Listed.{with_lines}
use Rattle.cjc_list.proofs.read.read_rest.Given as goal

abbrev pub invariant-loop-line : goal.invariant-loop-line
invariant-loop-line l = with_lines l.list (drop l.line-index l.lines) ≡ with_lines l.fn.list l.lines
