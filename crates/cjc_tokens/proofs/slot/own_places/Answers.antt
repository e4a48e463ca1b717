use Rattle.std.proofs.Common.{◌∙◌, ap, sym, map, take, Some, None}
use Rattle.std.specs.Prelude.{if◌then◌else◌, position, ◌&&◌}
use Rattle.cjc_world.specs.Lookup.{is_called}
use Rattle.cjc_world.specs.Classes.{method_of_class}
use Rattle.cjc_tokens.specs.Members.{same}
use Rattle.cjc_tokens.specs.SlotRows.{place_under}
use Rattle.cjc_tokens.specs.Slots.{or_next}
use Rattle.cjc_tokens.specs.Working.{is_kind, is_of_kind}
use Rattle.cjc_tokens.proofs.Takings.{signature}
use Rattle.cjc_tokens.proofs.Noted.{own-next, own-same}
use Rattle.cjc_tokens.proofs.slot.own_places.Goals as goal
use Rattle.cjc_tokens.proofs.slot.own_places.Goals.{then-is_of_kind+in_ok-note, else-is_of_kind}
use Rattle.cjc_bytes.proofs.Gets.{take_past}

pub loop-place-init : goal.loop-place-init
loop-place-init c = c.new-places.ensures

pub loop-place-preserved : goal.loop-place-preserved
loop-place-preserved c = elim c.if-is_of_kind.branch [
  | then-is_of_kind+in_ok-note w ↦ λ s.
      let k = c.loop-place.place in
      let m = c.index-methods-place.result in
      let before = position (λ n. is_of_kind c.args.hidden n && is_called s.name s.desc n)
      (map method_of_class (take k c.args.methods.now)) in
      ap (λ p. place_under p s) w.places-is ∙ w.in_ok-note.ensures.noted s
      ∙ ap (λ o. or_next o (if same (signature c.items-name.result.now w.items.result.now) s then Some k else None))
      (c.loop-place.invariant s)
      ∙ ap (λ n. or_next before (if same (signature n w.items.result.now) s then Some k else None))
      c.items-name.ensures
      ∙ ap (λ d. or_next before (if same (signature m.name d) s then Some k else None)) w.items.ensures
      ∙ sym (own-next (is_of_kind c.args.hidden) c.args.methods.now k m s c.loop-place-test.true
      c.index-methods-place.is
      (ap (is_kind c.args.hidden m.flags) (sym c.items-name.ensures) ∙ sym c.is_of_kind.ensures
      ∙ w.if-is_of_kind.true))
  | else-is_of_kind w ↦ λ s. ap (λ p. place_under p s) w.places-is ∙ c.loop-place.invariant s
      ∙ sym (own-same (is_of_kind c.args.hidden) c.args.methods.now c.loop-place.place c.index-methods-place.result s
      c.loop-place-test.true c.index-methods-place.is
      (ap (is_kind c.args.hidden c.index-methods-place.result.flags) (sym c.items-name.ensures)
      ∙ sym c.is_of_kind.ensures ∙ w.if-is_of_kind.false))
]

pub returns : goal.returns
returns c = rw (take_past c.args.methods.now c.loop-place.place c.loop-place-test.false) at c.loop-place.invariant
