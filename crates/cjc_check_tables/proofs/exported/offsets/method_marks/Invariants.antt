use Rattle.std.proofs.Common.{◌≡◌, ℕ, ◌<◌, drop, length, get_or, false}
use Rattle.std.specs.Prelude.{◌||◌}
use Rattle.std.specs.List.{list_any}
use Rattle.cjc_check_index.specs.Lookup.Parts.{complete_of}
use Rattle.cjc_check_rules.specs.Members.{is_method_start}
use Rattle.cjc_check_tables.proofs.ExportedLaws.Marks.{is_asked}
use Rattle.cjc_check_tables.proofs.exported.offsets.method_marks.Given as goal

abbrev pub invariant-loop-method : goal.invariant-loop-method
invariant-loop-method l =
    (length l.marks.items ≡ length l.offsets)
    × ((n : ℕ) → n < length l.offsets
    → (get_or l.marks.items n false || list_any (is_asked (is_method_start (complete_of l.methods.names.now.parts.now))
    n (get_or l.offsets n 0)) (drop l.method-index l.described))
    ≡ list_any (is_asked (is_method_start (complete_of l.methods.names.now.parts.now)) n (get_or l.offsets n 0))
    l.described)
