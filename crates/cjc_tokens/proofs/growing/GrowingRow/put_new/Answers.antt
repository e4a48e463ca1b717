use Rattle.std.proofs.Common.{◌≡◌, ◌∙◌, ap, sym, subst, ◌++◌, ◌∷◌, [], length, false, true, Some, None}
use Rattle.std.specs.Prelude.{if◌then◌else◌, Option}
use Rattle.std.specs.Global.{Vec}
use Rattle.cjc_tokens.specs.declared.slot.Slot.{Slot}
use Rattle.cjc_tokens.specs.Members.{Signature, same}
use Rattle.cjc_tokens.specs.Slots.{has_slot, or_next, token}
use Rattle.cjc_tokens.specs.Working.{Offered, signature_in, signs}
use Rattle.cjc_tokens.proofs.growing.GrowingRow.put_new.Goals as goal
use Rattle.cjc_tokens.proofs.Offers.{offered-kept, offered-put}
use Rattle.cjc_tokens.proofs.Noted.{none-has_slot, some-has_slot, token-snoc}

pub invariant_of-self-in-None : goal.invariant_of-self-in-None
invariant_of-self-in-None c = λ s.
    let slot : Slot = record { name = c.args.name; desc = c.args.desc; method = c.args.method } in
    let r : Signature = record { name = c.args.name.now; desc = c.args.desc.now } in
    let row = c.self.inside.row.items in
    let v : Vec (Option Slot) = c.reserve.new.self in
    let n : c.len.result ≡ length row = c.len.ensures ∙ v.ok.0 ∙ ap length c.in_ok-reserve-in-None.ensures.items in
    c.in_ok-note-in-None.ensures.noted s
    ∙ ap (λ o. or_next o (if same r s then Some c.len.result else None)) (c.self.invariant s)
    ∙ ap (λ k. or_next (token (signs row) s) (if same r s then Some k else None)) n
    ∙ sym (token-snoc row (Some slot) s)
    ∙ ap (λ q. token (signs (q ++ Some slot ∷ [])) s) (sym c.in_ok-reserve-in-None.ensures.items)
    ∙ ap (λ q. token (signs q) s) (sym c.push_reserved.ensures.items)

pub returns-in_ok-note-in-None : goal.returns-in_ok-note-in-None
returns-in_ok-note-in-None c = λ ss m old o is.
    let slot : Slot = record { name = c.args.name; desc = c.args.desc; method = c.args.method } in
    let row = c.self.inside.row.items in
    let none : has_slot (signs row) (signature_in slot) ≡ false = none-has_slot (signs row) (signature_in slot)
    (sym (c.self.invariant (signature_in slot)) ∙ sym c.get.ensures ∙ c.in-None.is) in
    let items : c.push_reserved.new.self.items ≡ row ++ Some slot ∷ [] = c.push_reserved.ensures.items
    ∙ ap (λ q. q ++ Some slot ∷ []) c.in_ok-reserve-in-None.ensures.items in
    let before : Offered ss m old row = subst (λ (v : Vec (Option Slot)). Offered ss m old v.items) (sym
    c.self.view_is) o in
    subst (λ q. Offered (ss ++ signature_in slot ∷ []) m old q) (sym items) (offered-put ss slot m old row before none
    is)

pub returns-in-Some : goal.returns-in-Some
returns-in-Some c = λ ss m old o is.
    let r : Signature = record { name = c.args.name.now; desc = c.args.desc.now } in
    let row = c.self.inside.row.items in
    let there : has_slot (signs row) r ≡ true = some-has_slot (signs row) r c.in-Some.field-0
    (sym (c.self.invariant r) ∙ sym c.get.ensures ∙ c.in-Some.is) in
    let here : has_slot (signs c.args.self.now.items) r ≡ true =
    subst (λ (v : Vec (Option Slot)). has_slot (signs v.items) r ≡ true) c.self.view_is there in
    offered-kept ss r m old c.args.self.now.items o here
