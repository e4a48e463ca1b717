use Rattle.cjc_select_trials.proofs.Orders.{Ascend}
use Rattle.cjc_select_trials.proofs.fits.are_ascending.Given as goal

abbrev pub invariant-loop-k : goal.invariant-loop-k
invariant-loop-k l = Ascend l.insns l.k
