use Rattle.cjc_tests_rules.specs.Tables.Names.{AllGo}
use Rattle.cjc_tests_rules.proofs.tables.names.all_go.Given as goal

abbrev pub invariant-loop-at : goal.invariant-loop-at
invariant-loop-at l = AllGo l.code l.marked l.at
