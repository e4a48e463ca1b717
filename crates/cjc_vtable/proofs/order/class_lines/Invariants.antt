use Rattle.std.proofs.Common.{◌≡◌, ◌+◌, ◌≤◌, drop}
use Rattle.cjc_vtable.specs.Standing.{class_lines}
use Rattle.cjc_vtable.proofs.order.class_lines.Given as goal

abbrev pub invariant-loop-line : goal.invariant-loop-line
invariant-loop-line l = record {
  counted : l.count + class_lines (drop l.line-index l.lines) ≡ class_lines l.lines;
  few : l.count ≤ l.line-index;
}
