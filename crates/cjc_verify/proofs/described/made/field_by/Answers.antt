use Rattle.std.proofs.Common.{ℕ, List, ap, ◌∙◌}
use Rattle.cjc_classes.specs.ClassInfo.Refs.{ref_of}
use Rattle.cjc_card_acts.specs.Script.Sorts.{field_sort}
use Rattle.cjc_verify.specs.Made.{inputs_of}
use Rattle.cjc_verify.specs.WantedMembers.{card_nibbles, place_by, type_by}
use Rattle.cjc_verify.proofs.described.made.field_by.Goals as goal

pub returns : goal.returns
returns c =
    let q = c.args.made.now in
    let token = c.token_of-token.ensures in
    let flags = c.field_flags.ensures.written in
    let place = c.place_by.ensures ∙ ap (λ (t : ℕ). place_by (inputs_of q) c.args.number c.args.class.now c.args.place t
    c.args.field.now) token in
    let type_ = c.in_ok-type_.ensures ∙ ap (λ (desc : List ℕ). type_by (card_nibbles (ref_of q.refs.now) desc)
    (field_sort desc)) c.items.ensures in
    (λ i. record { token = token i; flags = flags i; place = place i; type_ = type_ i })
