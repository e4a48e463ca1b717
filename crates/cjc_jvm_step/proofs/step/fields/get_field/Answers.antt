use Rattle.std.proofs.Common.{◌≡◌, ◌∙◌, ap}
use Rattle.std.specs.Prelude.{Some}
use Rattle.cjc_jvm_step.specs.declared.step.lookups.ResolvedField.TheVariants as fields
use Rattle.cjc_jvm_step.proofs.step.fields.get_field.Goals as goal

pub returns-in-Some-Instance : goal.returns-in-Some-Instance
returns-in-Some-Instance c =
    let inner : c.in-Some-Instance.field-0 ≡ fields.Instance c.in-Some-Instance.class =
    rw c.in-Some-Instance.is at c.in-Some-Instance.field-0-is in
    let found : c.args.field ≡ Some (fields.Instance c.in-Some-Instance.class) = c.in-Some-Instance.is
    ∙ ap (λ r. Some r) inner in
    rw found c.get_field_of.ensures
