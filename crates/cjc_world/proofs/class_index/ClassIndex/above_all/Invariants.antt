use Rattle.std.proofs.Common.{◌≡◌, length}
use Rattle.cjc_world.specs.Classes.{all_classes}
use Rattle.cjc_world.specs.Working.Tables.{AreRight}
use Rattle.cjc_world.proofs.Filling.{Reached}
use Rattle.cjc_world.proofs.class_index.ClassIndex.above_all.Given as goal

abbrev pub invariant-loop-step : goal.invariant-loop-step
invariant-loop-step l = record {
  count : length l.rows.items ≡ length (all_classes l.self);
  right : AreRight (all_classes l.self) l.rows.items;
  reached : Reached (all_classes l.self) l._step l.rows.items;
}
