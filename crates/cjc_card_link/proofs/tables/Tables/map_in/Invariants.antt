use Rattle.std.proofs.Common.{◌≡◌, ℕ, List, Option, drop}
use Rattle.cjc_card_semantics.specs.Machine.Dispatch.{map_in}
use Rattle.cjc_card_frame.specs.Objects.{class_of}
use Rattle.cjc_card_link.specs.Tables.{loaded_of}
use Rattle.cjc_card_link.proofs.tables.Tables.map_in.Given as goal

abbrev pub invariant-loop-map : goal.invariant-loop-map
invariant-loop-map l = (above : Option (List ℕ)) → map_in (loaded_of l.self) l.part (drop l.map-index l.maps)
    (class_of l.interface) above ≡ map_in (loaded_of l.self) l.part l.maps (class_of l.interface) above
