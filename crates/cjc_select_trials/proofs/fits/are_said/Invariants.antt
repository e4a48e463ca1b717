use Rattle.cjc_select_trials.proofs.Orders.{AreSaid}
use Rattle.cjc_select_trials.proofs.fits.are_said.Given as goal

abbrev pub invariant-loop-k : goal.invariant-loop-k
invariant-loop-k l = AreSaid l.insns l.k
