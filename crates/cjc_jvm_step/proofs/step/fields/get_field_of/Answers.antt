use Rattle.std.proofs.Common.{◌+◌, ◌∷◌, ◌∙◌, ap, sym, drop}
use Rattle.cjc_jvm_semantics.specs.Effects.{Store, Go, one_value}
use Rattle.cjc_jvm_semantics.specs.OnePackage.{of_class}
use Rattle.cjc_jvm_step.specs.Heap.Looks.{field_at}
use Rattle.cjc_jvm_step.proofs.step.fields.get_field_of.Goals as goal

pub returns-in_ok-put-in-Ok : goal.returns-in_ok-put-in-Ok
returns-in_ok-put-in-Ok c = λ l statics.
    let f = c.args.frame.now in
    let heap = c.args.heap.now in
    let store : Store = record { heap = heap; statics = statics } in
    record {
      effect =
          ap (λ s. one_value s (λ r rest. field_at heap r (of_class c.args.class.now c.args.id.now)
          (λ v. Go (f.at + 1) (v ∷ rest) f.locals store))) c.in-Some.ensures
          ∙ c.in-Ok.ensures (λ v. Go (f.at + 1) (v ∷ drop 1 f.stack) f.locals store)
          ∙ ap (λ g. Go g.at g.stack g.locals store) (sym c.in_ok-put-in-Ok.ensures);
      keeps = ap (λ g. g.method) c.in_ok-put-in-Ok.ensures;
    }

pub returns-in-Err : goal.returns-in-Err
returns-in-Err c = λ l statics.
    let f = c.args.frame.now in
    let heap = c.args.heap.now in
    let store : Store = record { heap = heap; statics = statics } in
    record {
      effect =
          ap (λ s. one_value s (λ r rest. field_at heap r (of_class c.args.class.now c.args.id.now)
          (λ v. Go (f.at + 1) (v ∷ rest) f.locals store))) c.in-Some.ensures
          ∙ c.in-Err.ensures (λ v. Go (f.at + 1) (v ∷ drop 1 f.stack) f.locals store)
          ∙ sym (c.deed_of.ensures f store).0;
      keeps = (c.deed_of.ensures f store).1;
    }
