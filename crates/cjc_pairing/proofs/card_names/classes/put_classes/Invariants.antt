use Rattle.std.proofs.Common.{◌≡◌, ◌++◌, drop, map}
use Rattle.std.specs.List.{flat_map}
use Rattle.cjc_card_link.specs.Names.{class_names_of}
use Rattle.cjc_pairing.specs.CardNames.Working.Classes.{names_at}
use Rattle.cjc_pairing.proofs.card_names.classes.put_classes.Given as goal

abbrev pub invariant-loop-number : goal.invariant-loop-number
invariant-loop-number l = map class_names_of l.names ++ flat_map (names_at l.world l.tokens)
    (drop l.number-index l.numbers) ≡ map class_names_of l.fn.names ++ flat_map (names_at l.world l.tokens) l.numbers
