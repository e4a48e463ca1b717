use Rattle.std.proofs.Common.{◌+◌}
use Rattle.cjc_world.specs.Classes.{all_classes}
use Rattle.cjc_world.proofs.Stepping.{Told}
use Rattle.cjc_world.proofs.class_index.ClassIndex.standing.Given as goal

abbrev pub invariant-loop-step : goal.invariant-loop-step
invariant-loop-step l = Told (all_classes l.self) l.by_supers l.name (l._step + 1) l.known.items
