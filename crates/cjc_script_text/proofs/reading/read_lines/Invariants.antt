use Rattle.std.proofs.Common.{◌≡◌, ◌≤◌, drop}
use Rattle.cjc_script_text.specs.Scripted.{fresh, turns, with_lines}
use Rattle.cjc_script_text.proofs.reading.read_lines.Given as goal

abbrev pub invariant-loop-line : goal.invariant-loop-line
invariant-loop-line l = record {
  read : with_lines l.partial_script (drop l.line-index l.lines) ≡ with_lines fresh l.lines;
  few : turns l.partial_script ≤ l.line-index;
}
