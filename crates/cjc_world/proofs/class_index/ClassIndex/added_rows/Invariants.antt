use Rattle.std.proofs.Common.{◌≡◌, ◌<◌, ℕ, length, true}
use Rattle.std.specs.Prelude.{slice_get, Some}
use Rattle.cjc_world.specs.Added.{added_at}
use Rattle.cjc_world.specs.Working.Unchecked.{is_number_ready}
use Rattle.cjc_world.proofs.class_index.ClassIndex.added_rows.Given as goal

abbrev pub invariant-loop-place : goal.invariant-loop-place
invariant-loop-place l = record {
  count : length l.added.items ≡ l.place;
  made : (i : ℕ) → i < l.place → is_number_ready l.self l.rows i ≡ true → slice_get l.added.items i
      ≡ Some (added_at l.self i);
}
