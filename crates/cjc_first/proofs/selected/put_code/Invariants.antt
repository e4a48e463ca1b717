use Rattle.std.proofs.Common.{◌≡◌, ◌++◌, true, length}
use Rattle.std.specs.List.{list_all}
use Rattle.cjc_first.specs.Selected.{selected_code}
use Rattle.cjc_first.specs.FirstForm.{ops_of}
use Rattle.cjc_first.specs.Tests.{has_byte_local}
use Rattle.cjc_first.proofs.selected.put_code.Given as goal

abbrev pub invariant-loop-left : goal.invariant-loop-left
invariant-loop-left l = record {
  written : l.out ++ selected_code (ops_of l.left) ≡ l.fn.out ++ selected_code (ops_of l.insns);
  locals : list_all has_byte_local (ops_of l.left) ≡ true;
}

abbrev pub decreases-loop-left : goal.decreases-loop-left
decreases-loop-left l = length l.left
