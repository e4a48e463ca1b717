use Rattle.std.proofs.Common.{◌∙◌}
use Rattle.cjc_jvm_semantics.specs.Effects.{object_in, with_some, value_in}
use Rattle.cjc_jvm_semantics.specs.OnePackage.{of_class}
use Rattle.cjc_jvm_step.proofs.heap.heap.Heap.field_at.Goals as goal

pub returns-in-Some : goal.returns-in-Some
returns-in-Some c = λ go.
    c.in-Ok.ensures (λ k thing. object_in thing (λ class fields. with_some
    (value_in fields (of_class c.args.class.now c.args.id.now)) go)) ∙ c.in-Some.ensures go

pub returns-in-None : goal.returns-in-None
returns-in-None c = λ go.
    c.in-Ok.ensures (λ k thing. object_in thing (λ class fields. with_some
    (value_in fields (of_class c.args.class.now c.args.id.now)) go)) ∙ c.in-None.ensures go
