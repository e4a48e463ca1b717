use Rattle.std.proofs.Common.{◌≡◌, ◌<◌, ℕ, length}
use Rattle.std.specs.Prelude.{Some, slice_get}
use Rattle.cjc_world.specs.Classes.{all_classes}
use Rattle.cjc_world.specs.Working.Steps.{class_stands}
use Rattle.cjc_world.proofs.class_index.ClassIndex.step.Given as goal

abbrev pub invariant-loop-place : goal.invariant-loop-place
invariant-loop-place l = record {
  count : length l.next.items ≡ l.place;
  made : (p : ℕ) → p < l.place → slice_get l.next.items p ≡ Some (class_stands (all_classes l.self) l.by_supers l.name
      l.known (slice_get (all_classes l.self) p));
}
