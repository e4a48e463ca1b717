use Rattle.std.proofs.Common.{◌≡◌, ◌-◌}
use Rattle.cjc_card_semantics.specs.Machine.Classes.{upwards}
use Rattle.cjc_card_frame.specs.Objects.{class_of}
use Rattle.cjc_card_link.specs.Climbs.{AreMet, climbed}
use Rattle.cjc_card_link.specs.Tables.{loaded_of}
use Rattle.cjc_card_link.proofs.tables.Tables.upwards.Given as goal

abbrev pub invariant-loop-done : goal.invariant-loop-done
invariant-loop-done l = AreMet l.climb × (climbed (loaded_of l.self) (l.count - l.done) l.climb
    ≡ upwards (loaded_of l.self) (class_of l.fn.class))
