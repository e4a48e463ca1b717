use Rattle.std.proofs.Common.{◌≡◌, sym, ap, ◌∙◌}
use Rattle.std.specs.Prelude.{option_and_then, slice_get}
use Rattle.cjc_jvm_semantics.specs.OnePackage.{of_class}
use Rattle.cjc_jvm_step.proofs.HeapLaws.Fields.{value_place}
use Rattle.cjc_jvm_step.proofs.heap.object.value_at.Goals as goal

pub returns-in-Some : goal.returns-in-Some
returns-in-Some c =
    let values = c.args.values.now in
    c.value_in_place.ensures ∙ sym (value_place c.args.fields.now values (of_class c.args.class.now c.args.id.now)
    c.requires ∙ ap (λ p. option_and_then (slice_get values) p) (sym c.in-Some.ensures))

pub returns-in-None : goal.returns-in-None
returns-in-None c =
    let values = c.args.values.now in
    sym (value_place c.args.fields.now values (of_class c.args.class.now c.args.id.now) c.requires
    ∙ ap (λ p. option_and_then (slice_get values) p) (sym c.in-None.ensures))
