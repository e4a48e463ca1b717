use Rattle.std.proofs.Common.{◌≡◌, ◌<◌, List, length, sym, ap, ◌∙◌, map, arith}
use Rattle.std.specs.Prelude.{Some, None, slice_get}
use Rattle.std.specs.Vec.{vec_len}
use Rattle.std.proofs.lemmas.Option.{slice_get_within}
use Rattle.cjc_card_frame.specs.declared.heap.slots.Slot.{Slot}
use Rattle.cjc_card_frame.specs.Objects.{field_of, slot_by, place_in}
use Rattle.cjc_card_frame.proofs.HeapLaws.Places.{none_put, put_at, place_below}
use Rattle.cjc_card_semantics.proofs.BytesPlain.{none_is_some}
use Rattle.cjc_card_frame.proofs.heap.slots.put_slot.Goals as goal

pub returns-in_default : goal.returns-in_default
returns-in_default c =
    let xs = c.args.slots.now.items in
    let f = field_of c.args.field in
    let e : None ≡ place_in (map slot_by xs) f = c.in_default.ensures
    ∙ ap (λ (ys : List Slot). place_in (map slot_by ys) f) c.deref.ensures.value in
    none_put (map slot_by xs) f c.args.value e

pub returns-in_default-slot_in_place : goal.returns-in_default-slot_in_place
returns-in_default-slot_in_place c =
    let xs = c.args.slots.now.items in
    let f = field_of c.args.field in
    let p = c.in-Some.place in
    let e : Some p ≡ place_in (map slot_by xs) f = c.in-Some.ensures
    ∙ ap (λ (ys : List Slot). place_in (map slot_by ys) f) c.deref.ensures.value in
    let b = place_below xs f p e in
    let n : None ≡ slice_get xs p = c.in_default-slot_in_place.ensures ∙ ap (λ (ys : List Slot). slice_get ys p)
    c.deref-2.ensures.value in
    absurd (none_is_some b.0 (n ∙ b.1))

pub index_mut-requires : goal.index_mut-requires
index_mut-requires c =
    let v = c.args.slots.now in
    let xs = v.items in
    let p = c.in-Some.place in
    let s = c.in-Some-slot_in_place.slot in
    let at : slice_get xs p ≡ Some s = sym (c.in-Some-slot_in_place.ensures ∙ ap (λ (ys : List Slot). slice_get ys p)
    c.deref-2.ensures.value) in
    let within : p < length xs = slice_get_within xs p s at in
    let full : vec_len v ≡ length v.items = v.ok.0 in
    omega (arith, within, full)

pub returns : goal.returns
returns c =
    let xs = c.args.slots.now.items in
    let f = field_of c.args.field in
    let p = c.in-Some.place in
    let s = c.in-Some-slot_in_place.slot in
    let e : Some p ≡ place_in (map slot_by xs) f = c.in-Some.ensures
    ∙ ap (λ (ys : List Slot). place_in (map slot_by ys) f) c.deref.ensures.value in
    let at : slice_get xs p ≡ Some s = sym (c.in-Some-slot_in_place.ensures ∙ ap (λ (ys : List Slot). slice_get ys p)
    c.deref-2.ensures.value) in
    put_at xs f c.args.value p s e at
