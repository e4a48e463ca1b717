use Rattle.std.proofs.Common.{rules, ◌≡◌, ◌+◌, ◌∷◌, ◌∙◌, ap, sym, drop, refl}
use Rattle.std.specs.Prelude.{FitsSigned}
use Rattle.std.specs.Int.{w32, cast_signed, cast_unsigned}
use Rattle.std.proofs.lemmas.Int.{to_z-of_z}
use Rattle.cjc_jvm_semantics.specs.Effects.{Store, Go, one_value, one_number, load_of}
use Rattle.cjc_jvm_step.specs.Heap.Kinds.{effect_moves}
use Rattle.cjc_jvm_step.specs.Heap.Looks.{element_at}
use Rattle.cjc_jvm_step.proofs.step.arrays.load_element.Goals as goal

pub returns-in_default : goal.returns-in_default
returns-in_default c = λ l statics. record { effect = c.in_default.ensures _; keeps = (refl, refl) }

pub returns-in_ok-put-in-Ok : goal.returns-in_ok-put-in-Ok
returns-in_ok-put-in-Ok c = λ l statics.
    let f = c.args.frame.now in
    let heap = c.args.heap.now in
    let moves = effect_moves c.args.moves in
    let store : Store = record { heap = heap; statics = statics } in
    let i = c.in-Some.index in
    let fits : FitsSigned w32 i = search rules in
    let same : i ≡ cast_signed w32 (cast_unsigned w32 i) = sym (to_z-of_z w32 i fits) in
    record {
      effect =
          ap (λ s. one_number s (λ j below. one_value below (λ r rest. element_at moves heap r j (λ k desc items n v. Go
          (f.at + 1) (load_of moves v ∷ rest) f.locals store)))) c.in-Some.ensures
          ∙ ap (λ j. element_at moves heap c.in-Some.reference j (λ k desc items n v. Go (f.at + 1) (load_of moves v
          ∷ drop 2 f.stack) f.locals store)) same
          ∙ c.in-Ok.ensures.found (λ k desc items n v. Go (f.at + 1) (load_of moves v ∷ drop 2 f.stack) f.locals store)
          ∙ ap (λ v. Go (f.at + 1) (v ∷ drop 2 f.stack) f.locals store) (sym c.load_of.ensures)
          ∙ ap (λ g. Go g.at g.stack g.locals store) (sym c.in_ok-put-in-Ok.ensures);
      keeps = ap (λ g. g.method) c.in_ok-put-in-Ok.ensures;
    }

pub returns-in-Err : goal.returns-in-Err
returns-in-Err c = λ l statics.
    let f = c.args.frame.now in
    let heap = c.args.heap.now in
    let moves = effect_moves c.args.moves in
    let store : Store = record { heap = heap; statics = statics } in
    let i = c.in-Some.index in
    let fits : FitsSigned w32 i = search rules in
    let same : i ≡ cast_signed w32 (cast_unsigned w32 i) = sym (to_z-of_z w32 i fits) in
    record {
      effect =
          ap (λ s. one_number s (λ j below. one_value below (λ r rest. element_at moves heap r j (λ k desc items n v. Go
          (f.at + 1) (load_of moves v ∷ rest) f.locals store)))) c.in-Some.ensures
          ∙ ap (λ j. element_at moves heap c.in-Some.reference j (λ k desc items n v. Go (f.at + 1) (load_of moves v
          ∷ drop 2 f.stack) f.locals store)) same
          ∙ c.in-Err.ensures.found (λ k desc items n v. Go (f.at + 1) (load_of moves v ∷ drop 2 f.stack) f.locals store)
          ∙ sym (c.deed_of.ensures f store).0;
      keeps = (c.deed_of.ensures f store).1;
    }
