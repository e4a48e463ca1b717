use Rattle.std.proofs.Common.{ℕ, List, ap, ◌∙◌}
use Rattle.cjc_components.specs.LowerScript.Sorts.{field_sort}
use Rattle.cjc_classes.specs.ClassInfo.Refs.{ref_of}
use Rattle.cjc_classes.specs.TypeInfo.TypeTable.{offset_in}
use Rattle.cjc_classes.specs.Descriptor.Working.Described.{field_type_by, inputs_of, place_at}
use Rattle.cjc_classes.proofs.descriptor.fields.field_at.Goals as goal

pub returns : goal.returns
returns c =
    let q = c.args.parts.now in
    let token = c.token_of-token.ensures in
    let flags = c.field_flags.ensures.written in
    let place = c.place_at.ensures ∙ ap (λ (t : ℕ). place_at (inputs_of q) c.args.number c.args.class.now c.args.place t
    c.args.field.now) token in
    let type_ = c.in_ok-type_.ensures
    ∙ ap (λ (desc : List ℕ). field_type_by (offset_in q.types.now (ref_of q.refs.now) desc) (field_sort desc))
    c.items.ensures in
    (λ i. record { token = token i; flags = flags i; place = place i; type_ = type_ i })
