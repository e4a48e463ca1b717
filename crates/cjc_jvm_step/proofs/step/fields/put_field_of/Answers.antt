use Rattle.std.proofs.Common.{◌+◌, ◌∙◌, ap, sym, drop, refl}
use Rattle.cjc_jvm_semantics.specs.Effects.{Go, one_value}
use Rattle.cjc_jvm_semantics.specs.OnePackage.{of_class}
use Rattle.cjc_jvm_step.specs.Heap.Looks.{put_field_at}
use Rattle.cjc_jvm_step.specs.Step.Rows.{store_of}
use Rattle.cjc_jvm_step.proofs.step.fields.put_field_of.Goals as goal

pub returns-in_default-clause-row : goal.returns-in_default-clause-row
returns-in_default-clause-row c = λ l statics. record { effect = c.in_default.ensures _; keeps = (refl, refl) }

pub returns-in-Ok-clause-row : goal.returns-in-Ok-clause-row
returns-in-Ok-clause-row c = λ l statics.
    let f = c.args.frame.now in
    let heap = c.args.heap.now in
    let id = of_class c.args.class.now c.args.id.now in
    record {
      effect =
          ap (λ s. one_value s (λ v below. one_value below (λ r rest. put_field_at heap r id v (λ h. Go (f.at + 1) rest
          f.locals (store_of h statics))))) c.in-Some.ensures
          ∙ c.in-Ok.ensures.put (λ h. Go (f.at + 1) (drop 2 f.stack) f.locals (store_of h statics))
          ∙ ap (λ g. Go g.at g.stack g.locals (store_of c.put_field.new.self statics)) (sym c.pass.ensures);
      keeps = ap (λ g. g.method) c.pass.ensures;
    }

pub returns-in-Err-clause-row : goal.returns-in-Err-clause-row
returns-in-Err-clause-row c = λ l statics.
    let f = c.args.frame.now in
    let heap = c.args.heap.now in
    let id = of_class c.args.class.now c.args.id.now in
    let done = c.deed_of.ensures f (store_of heap statics) in
    rw c.in-Err.ensures.same (record {
      effect =
          ap (λ s. one_value s (λ v below. one_value below (λ r rest. put_field_at heap r id v (λ h. Go (f.at + 1) rest
          f.locals (store_of h statics))))) c.in-Some.ensures
          ∙ c.in-Err.ensures.put (λ h. Go (f.at + 1) (drop 2 f.stack) f.locals (store_of h statics))
          ∙ sym done.0;
      keeps = done.1;
    })
