use Rattle.std.proofs.Common.{◌≡◌, ◌-◌}
use Rattle.cjc_card.specs.Classes.{upwards}
use Rattle.cjc_card_heap.specs.Objects.{class_of}
use Rattle.cjc_card_lookups.specs.Climbs.{AreMet, climbed}
use Rattle.cjc_card_lookups.specs.Tables.{loaded_of}
use Rattle.cjc_card_lookups.proofs.tables.Tables.upwards.Given as goal

abbrev pub invariant-loop-done : goal.invariant-loop-done
invariant-loop-done l = AreMet l.climb × (climbed (loaded_of l.self) (l.count - l.done) l.climb ≡ upwards (loaded_of l.self) (class_of l.fn.class))
