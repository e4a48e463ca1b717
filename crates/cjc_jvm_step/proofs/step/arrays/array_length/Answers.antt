use Rattle.std.specs.Prelude.{FitsSigned}
use Rattle.std.specs.Int.{w32}
use Rattle.std.proofs.lemmas.Int.{to_z-of_z}
use Rattle.std.proofs.Common.{rules, ◌+◌, ◌∷◌, ◌∙◌, ap, sym, drop, length, pos}
use Rattle.cjc_script.specs.declared.value.Value.TheVariants.{Num}
use Rattle.cjc_jvm_semantics.specs.Effects.{Store, Go, one_value, thing_at, array_in}
use Rattle.cjc_jvm_step.proofs.step.arrays.array_length.Goals as goal

pub returns-in_ok-put-in-Ok : goal.returns-in_ok-put-in-Ok
returns-in_ok-put-in-Ok c = λ l statics.
    let fits : FitsSigned w32 c.count_of.result = search rules in
    let f = c.args.frame.now in
    let heap = c.args.heap.now in
    let store : Store = record { heap = heap; statics = statics } in
    record {
      effect =
          ap (λ s. one_value s (λ r rest. thing_at heap r (λ k thing. array_in thing (λ desc items. Go (f.at + 1)
          (Num (pos (length items)) ∷ rest) f.locals store)))) c.in-Some.ensures
          ∙ c.in-Ok.ensures.found (λ k desc items. Go (f.at + 1) (Num (pos (length items)) ∷ drop 1 f.stack) f.locals
          store)
          ∙ ap (λ n. Go (f.at + 1) (Num n ∷ drop 1 f.stack) f.locals store) (sym (to_z-of_z w32 c.count_of.result fits
          ∙ c.count_of.ensures))
          ∙ ap (λ g. Go g.at g.stack g.locals store) (sym c.in_ok-put-in-Ok.ensures);
      keeps = ap (λ g. g.method) c.in_ok-put-in-Ok.ensures;
    }

pub returns-in-Err : goal.returns-in-Err
returns-in-Err c = λ l statics.
    let f = c.args.frame.now in
    let heap = c.args.heap.now in
    let store : Store = record { heap = heap; statics = statics } in
    record {
      effect =
          ap (λ s. one_value s (λ r rest. thing_at heap r (λ k thing. array_in thing (λ desc items. Go (f.at + 1)
          (Num (pos (length items)) ∷ rest) f.locals store)))) c.in-Some.ensures
          ∙ c.in-Err.ensures.found (λ k desc items. Go (f.at + 1) (Num (pos (length items)) ∷ drop 1 f.stack) f.locals
          store)
          ∙ sym (c.deed_of.ensures f store).0;
      keeps = (c.deed_of.ensures f store).1;
    }
