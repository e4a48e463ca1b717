use Rattle.std.proofs.Common.{◌≡◌, take}
use Rattle.cjc_card.proofs.turns.notes.copy_of.Given as goal

abbrev pub invariant-loop-value : goal.invariant-loop-value
invariant-loop-value l = l.row ≡ take l.value-index l.values
