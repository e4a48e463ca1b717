use Rattle.std.proofs.Common.{◌≡◌, ◌++◌, drop, map}
use Rattle.std.specs.List.{flat_map}
use Rattle.cjc_classes.specs.LowerTokens.Working.{signs}
use Rattle.cjc_card_link.specs.Names.{method_name_of}
use Rattle.cjc_pairing.specs.CardNames.Working.Classes.{name_in}
use Rattle.cjc_pairing.proofs.card_names.methods.slot_names.Given as goal

abbrev pub invariant-loop-slot : goal.invariant-loop-slot
invariant-loop-slot l = map method_name_of l.names ++ flat_map name_in (signs (drop l.slot-index l.slots))
    ≡ flat_map name_in (signs l.slots)
