use Rattle.std.proofs.Common.{◌≡◌, ℕ, ◌<◌, ◌==◌, false, drop, length, get_or}
use Rattle.std.specs.Prelude.{◌&&◌, ◌||◌}
use Rattle.std.specs.List.{list_any}
use Rattle.cjc_check_index.specs.Imported.Working.Rows.{is_asked}
use Rattle.cjc_check_index.proofs.imported.listed.methods_of.Given as goal

abbrev pub invariant-loop-method : goal.invariant-loop-method
invariant-loop-method l =
    (length l.answers.items ≡ 256)
    × ((t : ℕ) → t < 256 → (get_or l.answers.items t false || list_any (λ y. is_asked l.unbound y && (y.token == t))
    (drop l.method-index l.methods)) ≡ list_any (λ y. is_asked l.unbound y && (y.token == t)) l.methods)
