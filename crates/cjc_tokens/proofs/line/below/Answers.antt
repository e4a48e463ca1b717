use Rattle.std.proofs.Common.{◌≡◌, ◌∙◌, ap, sym, subst, false, true}
use Rattle.cjc_world.specs.Classes.{Class, declared}
use Rattle.cjc_world.specs.Lookup.{or_else}
use Rattle.cjc_tokens.specs.Lines.{Declared}
use Rattle.cjc_tokens.specs.Members.{is_shown, signatures}
use Rattle.cjc_tokens.specs.Slots.{got, implementing, listed_token}
use Rattle.cjc_tokens.specs.Working.{Renewed, Taken, methods_in, signs, token_under}
use Rattle.cjc_tokens.proofs.Steps.{declared-found, shown-step, hidden-step, renewed-ids, offered-ids}
use Rattle.cjc_tokens.proofs.line.below.Goals as goal

pub returns : goal.returns
returns c = λ line given rows listing named.
    let class : Class = declared c.args.number c.args.class.now in
    let x = c.args.class.now.name in
    let ids = c.args.added.now in
    let one = subst (λ q. Renewed class given false q c.in_ok-shown.shown.items) c.deref.ensures.value
    (renewed-ids x given ids class false c.deref.result.now c.in_ok-shown.shown.items named c.in_ok-shown.ensures)
    in
    let implements = implementing (Declared class given line) in
    let ss = signatures is_shown class.methods in
    let told : token_under c.args.told.now ≡ listed_token line = λ i s. listing s i in
    let taken = subst (λ q. Taken (listed_token line) (methods_in c.args.above.now.shown.items) ss implements
    c.in_ok-shown.shown.items q) (sym c.in_ok-shown_row.ensures)
    (subst (λ q. Taken (listed_token line) q ss implements c.in_ok-shown.shown.items
    c.take_slots.new.row.items) (ap methods_in c.deref-2.ensures.value)
    (subst (λ q. Taken q (methods_in c.deref-2.result.now) ss implements c.in_ok-shown.shown.items
    c.take_slots.new.row.items) told (c.take_slots.ensures implements (λ s h.
    let f = declared-found is_shown s class h in
    f.1 ∙ ap (λ q. or_else q (or_else (got given s class) (implementing line s))) (sym f.1))))) in
    let shown = shown-step class given line c.args.above.now.shown.items c.in_ok-shown.shown.items
    c.in_ok-shown_row.shown_row.items c.offer_methods.new.row.items c.offer_added.new.row.items rows.shown_slots
    rows.shown_methods one taken c.in_ok-offer_methods.ensures (offered-ids x given ids class
    c.offer_methods.new.row.items c.offer_added.new.row.items named c.in_ok-offer_added.ensures) in
    let two = subst (λ q. Renewed class given true c.args.above.now.hidden.items q) (sym c.in_ok-hidden_row.ensures)
    (subst (λ q. Renewed class given true q c.in_ok-hidden.hidden.items) c.deref-3.ensures.value
    (renewed-ids x given ids class true c.deref-3.result.now c.in_ok-hidden.hidden.items named
    c.in_ok-hidden.ensures)) in
    let hidden = hidden-step class given line c.args.above.now.hidden.items c.in_ok-hidden_row.hidden_row.items
    c.offer_methods-2.new.row.items rows.hidden_slots_are rows.hidden_methods two c.in_ok-offer_methods-2.ensures in
    record {
      shown_slots = ap signs c.into_row.ensures ∙ shown.0;
      shown_methods = ap methods_in c.into_row.ensures ∙ shown.1;
      hidden_slots_are = ap signs c.into_row-2.ensures ∙ hidden.0;
      hidden_methods = ap methods_in c.into_row-2.ensures ∙ hidden.1;
    }
