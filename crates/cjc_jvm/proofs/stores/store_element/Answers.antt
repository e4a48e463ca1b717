use Rattle.std.proofs.Common.{rules, ◌≡◌, ℕ, List, ◌+◌, ◌∷◌, ◌∙◌, ap, sym, drop, refl, true}
use Rattle.std.specs.Prelude.{FitsSigned, Some, slice_set}
use Rattle.std.specs.Int.{w32, cast_signed, cast_unsigned}
use Rattle.std.proofs.lemmas.Int.{to_z-of_z}
use Rattle.cjc_script.specs.declared.value.Value.{Value}
use Rattle.cjc_script.specs.declared.report.Thing.TheVariants.{Array}
use Rattle.cjc_script.specs.Sorts.{shape_named}
use Rattle.cjc_by_name.specs.Effects.{Effect, Go, only_if, is_kind, of_references, with_kept, after_array_store}
use Rattle.cjc_heap.specs.Kinds.{effect_moves}
use Rattle.cjc_heap.specs.Looks.{name_at, items_at, element_at}
use Rattle.cjc_jvm.specs.Rows.{store_of}
use Rattle.cjc_jvm.proofs.stores.store_element.Goals as goal

pub returns-in_default-clause-row : goal.returns-in_default-clause-row
returns-in_default-clause-row g c = λ statics. record { effect = c.in_default.ensures _; keeps = (refl, refl) }

pub returns-in-Err-clause-row : goal.returns-in-Err-clause-row
returns-in-Err-clause-row g c = λ statics.
    let l = g.L.LookUps.linked c.args.links.now in
    let f = c.args.frame.now in
    let heap = c.args.heap.now in
    let moves = effect_moves c.args.moves in
    let v = c.in-Some.value in
    let r = c.in-Some.reference in
    let i = c.in-Some.index in
    let fits : FitsSigned w32 i = search rules in
    let same : i ≡ cast_signed w32 (cast_unsigned w32 i) = sym (to_z-of_z w32 i fits) in
    let kind : is_kind (of_references moves) v ≡ true = cc in
    let next : List ℕ → List Value → ℕ → ℕ → Value → Effect = λ desc items k n w. Go (f.at + 1) (drop 3 f.stack) f.locals (store_of (slice_set heap k (Array desc (slice_set items n w))) statics) in
    let go : ℕ → List ℕ → List Value → ℕ → Value → Effect = λ k desc items n old. with_kept l f.method f.at f.locals (store_of heap statics) moves (shape_named desc) v (next desc items k n) in
    let done = c.deed_of.ensures f (store_of heap statics) in
    record {
      effect =
          ap (λ s. after_array_store l f.method f.at f.locals (store_of heap statics) (Some moves) s) c.in-Some.ensures
          ∙ ap (λ t. only_if t (element_at moves heap r i go)) kind
          ∙ ap (λ j. element_at moves heap r j go) same
          ∙ c.in-Err.ensures.found go
          ∙ sym done.0;
      keeps = done.1;
    }

pub returns-in-Ok-kept-clause-row : goal.returns-in-Ok-kept-clause-row
returns-in-Ok-kept-clause-row g c = λ statics.
    let l = g.L.LookUps.linked c.args.links.now in
    let f = c.args.frame.now in
    let heap = c.args.heap.now in
    let moves = effect_moves c.args.moves in
    let v = c.in-Some.value in
    let r = c.in-Some.reference in
    let i = c.in-Some.index in
    let fits : FitsSigned w32 i = search rules in
    let same : i ≡ cast_signed w32 (cast_unsigned w32 i) = sym (to_z-of_z w32 i fits) in
    let kind : is_kind (of_references moves) v ≡ true = cc in
    let e = c.in-Ok.element in
    let name = name_at heap e.array in
    let items = items_at heap e.array in
    let next : List ℕ → List Value → ℕ → ℕ → Value → Effect = λ desc items k n w. Go (f.at + 1) (drop 3 f.stack) f.locals (store_of (slice_set heap k (Array desc (slice_set items n w))) statics) in
    let go : ℕ → List ℕ → List Value → ℕ → Value → Effect = λ k desc items n old. with_kept l f.method f.at f.locals (store_of heap statics) moves (shape_named desc) v (next desc items k n) in
    record {
      effect =
          ap (λ s. after_array_store l f.method f.at f.locals (store_of heap statics) (Some moves) s) c.in-Some.ensures
          ∙ ap (λ t. only_if t (element_at moves heap r i go)) kind
          ∙ ap (λ j. element_at moves heap r j go) same
          ∙ c.in-Ok.ensures.found go
          ∙ ap (λ s. with_kept l f.method f.at f.locals (store_of heap statics) moves s v (next name items e.array e.place)) c.in-Ok.ensures.kind
          ∙ c.in-Ok-kept.ensures statics (next name items e.array e.place)
          ∙ ap (λ h. Go (f.at + 1) (drop 3 f.stack) f.locals (store_of h statics)) (sym c.set_element.ensures)
          ∙ ap (λ h. Go h.at h.stack h.locals (store_of c.set_element.new.self statics)) (sym c.pass.ensures);
      keeps = ap (λ h. h.method) c.pass.ensures;
    }

pub returns-in-Err-kept-clause-row : goal.returns-in-Err-kept-clause-row
returns-in-Err-kept-clause-row g c = λ statics.
    let l = g.L.LookUps.linked c.args.links.now in
    let f = c.args.frame.now in
    let heap = c.args.heap.now in
    let moves = effect_moves c.args.moves in
    let v = c.in-Some.value in
    let r = c.in-Some.reference in
    let i = c.in-Some.index in
    let fits : FitsSigned w32 i = search rules in
    let same : i ≡ cast_signed w32 (cast_unsigned w32 i) = sym (to_z-of_z w32 i fits) in
    let kind : is_kind (of_references moves) v ≡ true = cc in
    let e = c.in-Ok.element in
    let name = name_at heap e.array in
    let items = items_at heap e.array in
    let next : List ℕ → List Value → ℕ → ℕ → Value → Effect = λ desc items k n w. Go (f.at + 1) (drop 3 f.stack) f.locals (store_of (slice_set heap k (Array desc (slice_set items n w))) statics) in
    let go : ℕ → List ℕ → List Value → ℕ → Value → Effect = λ k desc items n old. with_kept l f.method f.at f.locals (store_of heap statics) moves (shape_named desc) v (next desc items k n) in
    let done = c.deed_of-in-Err-kept.ensures f (store_of heap statics) in
    record {
      effect =
          ap (λ s. after_array_store l f.method f.at f.locals (store_of heap statics) (Some moves) s) c.in-Some.ensures
          ∙ ap (λ t. only_if t (element_at moves heap r i go)) kind
          ∙ ap (λ j. element_at moves heap r j go) same
          ∙ c.in-Ok.ensures.found go
          ∙ ap (λ s. with_kept l f.method f.at f.locals (store_of heap statics) moves s v (next name items e.array e.place)) c.in-Ok.ensures.kind
          ∙ c.in-Err-kept.ensures statics (next name items e.array e.place)
          ∙ sym done.0;
      keeps = done.1;
    }
