use Rattle.cjc_tests_selection.proofs.SelectionLaws.Orders.{AreSaid}
use Rattle.cjc_tests_selection.proofs.selection.fits.are_said.Given as goal

abbrev pub invariant-loop-k : goal.invariant-loop-k
invariant-loop-k l = AreSaid l.insns l.k
