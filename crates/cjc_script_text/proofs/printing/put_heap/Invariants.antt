use Rattle.std.proofs.Common.{◌≡◌, ◌++◌, drop}
use Rattle.cjc_script_text.specs.Printed.{thing_lines}
use Rattle.cjc_script_text.proofs.printing.put_heap.Given as goal

abbrev pub invariant-loop-number : goal.invariant-loop-number
invariant-loop-number l = l.out ++ thing_lines l.number (drop l.number l.heap) ≡ l.initial.out ++ thing_lines 0 l.heap
