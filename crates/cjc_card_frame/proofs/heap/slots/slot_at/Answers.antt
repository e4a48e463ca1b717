use Rattle.std.proofs.Common.{sym, ◌∙◌, map}
use Rattle.cjc_card_frame.specs.Objects.{field_of, slot_by}
use Rattle.cjc_card_frame.proofs.HeapLaws.Places.{none_held, held_at, place_below}
use Rattle.cjc_card_semantics.proofs.BytesPlain.{none_is_some}
use Rattle.cjc_card_frame.proofs.heap.slots.slot_at.Goals as goal

pub returns-in_default : goal.returns-in_default
returns-in_default c = sym (none_held (map slot_by c.args.slots.now) (field_of c.args.field) c.in_default.ensures)

pub returns-in_default-slot_in_place : goal.returns-in_default-slot_in_place
returns-in_default-slot_in_place c =
    let b = place_below c.args.slots.now (field_of c.args.field) c.in-Some.place c.in-Some.ensures in
    absurd (none_is_some b.0 (c.in_default-slot_in_place.ensures ∙ b.1))

pub returns : goal.returns
returns c = sym (held_at c.args.slots.now (field_of c.args.field) c.in-Some.place c.in-Some-slot_in_place.slot
    c.in-Some.ensures (sym c.in-Some-slot_in_place.ensures))
