use Rattle.std.proofs.Common.{◌≡◌, drop, map}
use Rattle.std.specs.Prelude.{option_map}
use Rattle.cjc_card_semantics.specs.Machine.Calls.{through_first}
use Rattle.cjc_card_frame.specs.Objects.{class_of}
use Rattle.cjc_card_link.specs.Tables.{loaded_of}
use Rattle.cjc_card_calls.proofs.names.interfaces.through_first.Given as goal

abbrev pub invariant-loop-class : goal.invariant-loop-class
invariant-loop-class l =
    through_first (loaded_of l.tables) (option_map class_of l.receiver) (map class_of (drop l.class-index l.classes))
    l.id
    ≡ through_first (loaded_of l.tables) (option_map class_of l.receiver) (map class_of l.classes) l.id
