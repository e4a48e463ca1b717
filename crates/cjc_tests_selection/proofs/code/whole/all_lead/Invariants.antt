use Rattle.std.proofs.Common.{◌≤◌, drop, length}
use Rattle.cjc_examples.specs.Layout.Sizes.{AllLead}
use Rattle.cjc_tests_selection.proofs.code.whole.all_lead.Given as goal

abbrev pub invariant-loop-k : goal.invariant-loop-k
invariant-loop-k l = (l.k ≤ length l.insns) × AllLead l.count (drop l.k l.insns)

abbrev pub decreases-loop-k : goal.decreases-loop-k
decreases-loop-k l = l.k
