use Rattle.std.proofs.Common.{◌≡◌, ◌<◌, ℕ, length}
use Rattle.std.specs.Prelude.{Some, slice_get}
use Rattle.cjc_world.specs.Classes.{all_classes}
use Rattle.cjc_world.specs.Working.Places.{has_name}
use Rattle.cjc_world.proofs.class_index.ClassIndex.begun.Given as goal

abbrev pub invariant-loop-place : goal.invariant-loop-place
invariant-loop-place l = record {
  count : length l.known.items ≡ l.place;
  made : (p : ℕ) → p < l.place → slice_get l.known.items p ≡ Some (has_name l.name (slice_get (all_classes l.self) p));
}
