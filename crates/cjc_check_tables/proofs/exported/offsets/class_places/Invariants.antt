use Rattle.std.proofs.Common.{◌≡◌, ℕ, ◌<◌, drop, length, get_or, None}
use Rattle.cjc_capread.specs.declared.tree.ExportedClass.{ExportedClass}
use Rattle.cjc_check_tables.specs.Exported.{first_place, place_from}
use Rattle.cjc_check_tables.proofs.ExportedLaws.Marks.{kept_or}
use Rattle.cjc_check_tables.proofs.exported.offsets.class_places.Given as goal

abbrev pub invariant-loop-i : goal.invariant-loop-i
invariant-loop-i l =
    (length l.places.items ≡ length l.exported)
    × ((n : ℕ) (e : ExportedClass) → n < length l.exported
    → kept_or (get_or l.places.items n None) (place_from l.i (drop l.i l.classes) n
    (get_or l.exported n e).class_offset) ≡ first_place l.classes n (get_or l.exported n e).class_offset)
