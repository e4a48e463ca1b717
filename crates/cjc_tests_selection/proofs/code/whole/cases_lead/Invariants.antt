use Rattle.std.proofs.Common.{◌≤◌, drop, length}
use Rattle.cjc_examples.specs.Layout.Sizes.{CasesLead}
use Rattle.cjc_tests_selection.proofs.code.whole.cases_lead.Given as goal

abbrev pub invariant-loop-k : goal.invariant-loop-k
invariant-loop-k l = (l.k ≤ length l.cases) × CasesLead l.count (drop l.k l.cases)

abbrev pub decreases-loop-k : goal.decreases-loop-k
decreases-loop-k l = l.k
