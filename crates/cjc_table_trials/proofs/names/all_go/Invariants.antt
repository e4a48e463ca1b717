use Rattle.cjc_table_trials.specs.Names.{AllGo}
use Rattle.cjc_table_trials.proofs.names.all_go.Given as goal

abbrev pub invariant-loop-at : goal.invariant-loop-at
invariant-loop-at l = AllGo l.code l.marked l.at
