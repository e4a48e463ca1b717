use Rattle.std.proofs.Common.{◌≡◌, ℕ, false, length}
use Rattle.std.specs.Prelude.{slice_get}
use Rattle.cjc_world.specs.Working.Tables.{is_row}
use Rattle.cjc_world.proofs.tables.no_rows.Given as goal

abbrev pub invariant-loop-place : goal.invariant-loop-place
invariant-loop-place l = record {
  count : length l.rows.items ≡ l._place;
  none : (p : ℕ) → is_row (slice_get l.rows.items p) ≡ false;
}
