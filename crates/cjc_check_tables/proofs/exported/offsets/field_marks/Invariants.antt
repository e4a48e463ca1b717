use Rattle.std.proofs.Common.{◌≡◌, ℕ, ◌<◌, drop, length, get_or, false}
use Rattle.std.specs.Prelude.{◌||◌}
use Rattle.cjc_check_tables.specs.Exported.{has_cell}
use Rattle.cjc_check_tables.proofs.exported.offsets.field_marks.Given as goal

abbrev pub invariant-loop-field : goal.invariant-loop-field
invariant-loop-field l =
    (length l.marks.items ≡ length l.offsets)
    × ((n : ℕ) → n < length l.offsets → (get_or l.marks.items n false || has_cell (drop l.field-index l.fields) n
    (get_or l.offsets n 0)) ≡ has_cell l.fields n (get_or l.offsets n 0))
