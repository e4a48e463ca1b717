use Rattle.std.proofs.Common.{◌≡◌, ℕ, ◌<◌, ◌==◌, false, drop, length, get_or}
use Rattle.std.specs.Prelude.{◌&&◌, ◌||◌}
use Rattle.std.specs.List.{list_any}
use Rattle.cjc_check_index.specs.Imported.Working.Rows.{is_wanted}
use Rattle.cjc_check_index.proofs.imported.listed.fields_of.Given as goal

abbrev pub invariant-loop-field : goal.invariant-loop-field
invariant-loop-field l =
    (length l.answers.items ≡ 256)
    × ((t : ℕ) → t < 256 → (get_or l.answers.items t false || list_any (λ y. is_wanted l.statics y && (y.token == t))
    (drop l.field-index l.fields)) ≡ list_any (λ y. is_wanted l.statics y && (y.token == t)) l.fields)
