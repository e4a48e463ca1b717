use Rattle.std.proofs.Common.{◌≡◌, ◌-◌, ◌++◌, drop, length, map}
use Rattle.cjc_card_acts.specs.CardTypes.{needs_of_all}
use Rattle.cjc_card_acts.specs.Told.{type_told}
use Rattle.cjc_card_acts.proofs.types.put_all_needs.Given as goal

abbrev pub invariant-loop-k : goal.invariant-loop-k
invariant-loop-k l = l.needs ≡ l.initial.needs ++ needs_of_all (map type_told (drop (length l.types - l.k) l.types))
