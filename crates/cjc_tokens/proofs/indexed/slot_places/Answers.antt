use Rattle.std.proofs.Common.{◌∙◌, ap, sym, get_or, Some, None}
use Rattle.std.specs.Prelude.{option_map, if◌then◌else◌}
use Rattle.cjc_tokens.specs.Slots.{holds, or_next, token}
use Rattle.cjc_tokens.specs.SlotRows.{signature_in}
use Rattle.cjc_tokens.proofs.Noted.{token-next}
use Rattle.cjc_tokens.proofs.indexed.slot_places.Goals as goal

pub loop-place-init : goal.loop-place-init
unfolding token
loop-place-init c = c.new-places.ensures

pub loop-place-preserved : goal.loop-place-preserved
loop-place-preserved c = λ s. c.in_ok-note_slot.ensures s
    ∙ ap (λ o. or_next o (if holds (option_map signature_in (get_or c.args.row.now c.loop-place.place None)) s
    then Some c.loop-place.place else None)) (c.loop-place.invariant s)
    ∙ sym (token-next c.args.row.now c.loop-place.place None s c.loop-place-test.true)
