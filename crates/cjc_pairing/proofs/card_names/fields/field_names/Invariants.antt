use Rattle.std.proofs.Common.{◌≡◌, ◌++◌, drop, map}
use Rattle.cjc_card_link.specs.Names.{field_name_of}
use Rattle.cjc_pairing.specs.CardNames.Working.Classes.{each_from, field_where}
use Rattle.cjc_pairing.proofs.card_names.fields.field_names.Given as goal

abbrev pub invariant-loop-place : goal.invariant-loop-place
invariant-loop-place l = map field_name_of l.names ++ each_from (field_where l.tokens l.number) l.place
    (drop l.place l.fields) ≡ each_from (field_where l.tokens l.number) 0 l.class.fields
