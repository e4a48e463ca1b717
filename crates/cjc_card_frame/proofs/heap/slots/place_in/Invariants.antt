use Rattle.std.proofs.Common.{◌≡◌, ◌+◌, drop, map}
use Rattle.std.specs.Prelude.{option_map}
use Rattle.cjc_card_frame.specs.Objects.{field_of, slot_by}
use Rattle.cjc_card_frame.specs.Objects
use Rattle.cjc_card_frame.proofs.heap.slots.place_in.Given as goal

abbrev pub invariant-loop-i : goal.invariant-loop-i
invariant-loop-i l = Objects.place_in (map slot_by l.slots) (field_of l.field) ≡ option_map (λ n. l.i + n)
    (Objects.place_in (map slot_by (drop l.i l.slots)) (field_of l.field))
