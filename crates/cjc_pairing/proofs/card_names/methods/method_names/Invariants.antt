use Rattle.std.proofs.Common.{◌≡◌, map, take}
use Rattle.std.specs.List.{flat_map}
use Rattle.cjc_card_link.specs.Names.{method_name_of}
use Rattle.cjc_pairing.specs.CardNames.Working.Classes.{name_where}
use Rattle.cjc_pairing.proofs.card_names.methods.method_names.Given as goal

abbrev pub invariant-loop-method : goal.invariant-loop-method
invariant-loop-method l = map method_name_of l.names ≡ flat_map name_where (take l.method-index l.class.methods)
