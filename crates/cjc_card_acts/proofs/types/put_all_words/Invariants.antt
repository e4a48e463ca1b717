use Rattle.std.proofs.Common.{◌≡◌, ◌++◌, length, map, flat_map}
use Rattle.cjc_card_acts.specs.CardTypes.{words}
use Rattle.cjc_card_acts.specs.Told.{type_told}
use Rattle.cjc_card_acts.proofs.types.put_all_words.Given as goal

abbrev pub invariant-loop-left : goal.invariant-loop-left
invariant-loop-left l = l.given ++ flat_map words (map type_told l.left) ≡ l.initial.given
    ++ flat_map words (map type_told l.types)

abbrev pub decreases-loop-left : goal.decreases-loop-left
decreases-loop-left l = length l.left
