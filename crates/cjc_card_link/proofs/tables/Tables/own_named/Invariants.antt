use Rattle.std.proofs.Common.{◌≡◌, drop}
use Rattle.cjc_card_semantics.specs.Machine.Classes.{own_from}
use Rattle.cjc_card_link.specs.Tables.{loaded_of}
use Rattle.cjc_card_link.proofs.tables.Tables.own_named.Given as goal

abbrev pub invariant-loop-part : goal.invariant-loop-part
invariant-loop-part l =
    own_from l.part (drop l.part (loaded_of l.self).parts) l.name ≡ own_from 0 (loaded_of l.self).parts l.name
