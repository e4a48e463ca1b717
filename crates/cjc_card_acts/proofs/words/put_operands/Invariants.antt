use Rattle.std.proofs.Common.{◌≡◌, ◌++◌}
use Rattle.cjc_card_acts.specs.Rows.{operands_from}
use Rattle.cjc_card_acts.proofs.words.put_operands.Given as goal

abbrev pub invariant-loop-k : goal.invariant-loop-k
invariant-loop-k l = l.words ≡ l.initial.words ++ operands_from l.first l.k
