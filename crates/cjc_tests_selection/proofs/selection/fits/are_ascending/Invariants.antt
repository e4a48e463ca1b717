use Rattle.cjc_tests_selection.proofs.SelectionLaws.Orders.{Ascend}
use Rattle.cjc_tests_selection.proofs.selection.fits.are_ascending.Given as goal

abbrev pub invariant-loop-k : goal.invariant-loop-k
invariant-loop-k l = Ascend l.insns l.k
