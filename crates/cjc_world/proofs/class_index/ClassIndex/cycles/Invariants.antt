use Rattle.std.proofs.Common.{◌≡◌, ◌<◌, ℕ, List, length}
use Rattle.std.specs.Prelude.{Some, slice_get}
use Rattle.cjc_world.specs.Classes.{all_classes}
use Rattle.cjc_world.specs.Supertypes.{stands_above}
use Rattle.cjc_world.specs.Working.Places.{place_named}
use Rattle.cjc_world.proofs.class_index.ClassIndex.cycles.Given as goal

abbrev pub invariant-loop-place : goal.invariant-loop-place
invariant-loop-place l = record {
  count : length l.own.items ≡ l.place;
  made : (x : List ℕ) (p : ℕ) → p < l.place → place_named (all_classes l.self) x ≡ Some p → slice_get l.own.items p
      ≡ Some (stands_above (all_classes l.self) x x);
}
