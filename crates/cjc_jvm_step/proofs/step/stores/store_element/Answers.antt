use Rattle.std.proofs.Common.{rules, ◌≡◌, ◌+◌, ◌∙◌, ap, sym, drop, refl, true}
use Rattle.std.specs.Prelude.{FitsSigned}
use Rattle.std.specs.Int.{w32}
use Rattle.cjc_jvm_semantics.specs.Effects.{Go, is_kind, of_references, with_kept}
use Rattle.cjc_jvm_step.specs.Heap.Kinds.{effect_moves}
use Rattle.cjc_jvm_step.specs.Heap.Looks.{name_at, items_at}
use Rattle.cjc_jvm_step.specs.Step.Rows.{store_of}
use Rattle.cjc_jvm_step.proofs.StepLaws.Storing.{at_element, replaced, store_finds}
use Rattle.cjc_jvm_step.proofs.step.stores.store_element.Goals as goal

pub returns-in_default-clause-row : goal.returns-in_default-clause-row
returns-in_default-clause-row g c = λ statics. record { effect = c.in_default.ensures _; keeps = (refl, refl) }

pub returns-in-Err-clause-row : goal.returns-in-Err-clause-row
returns-in-Err-clause-row g c = λ statics.
    let l = g.L.LookUps.linked c.args.links.now in
    let f = c.args.frame.now in
    let heap = c.args.heap.now in
    let moves = effect_moves c.args.moves in
    let v = c.in-Some.value in
    let fits : FitsSigned w32 c.in-Some.index = search rules in
    let kind : is_kind (of_references moves) v ≡ true = cc in
    let done = c.deed_of.ensures f (store_of heap statics) in
    record {
      effect = store_finds l f heap statics moves v c.in-Some.reference c.in-Some.index fits c.in-Some.ensures kind
          ∙ c.in-Err.ensures.found (at_element l f heap statics moves v) ∙ sym done.0;
      keeps = done.1;
    }

pub returns-in-Ok-kept-clause-row : goal.returns-in-Ok-kept-clause-row
returns-in-Ok-kept-clause-row g c = λ statics.
    let l = g.L.LookUps.linked c.args.links.now in
    let f = c.args.frame.now in
    let heap = c.args.heap.now in
    let moves = effect_moves c.args.moves in
    let v = c.in-Some.value in
    let fits : FitsSigned w32 c.in-Some.index = search rules in
    let kind : is_kind (of_references moves) v ≡ true = cc in
    let e = c.in-Ok.element in
    let next = replaced l f heap statics e.array (name_at heap e.array) (items_at heap e.array) e.place in
    record {
      effect =
          store_finds l f heap statics moves v c.in-Some.reference c.in-Some.index fits c.in-Some.ensures kind
          ∙ c.in-Ok.ensures.found (at_element l f heap statics moves v)
          ∙ ap (λ s. with_kept l f.method f.at f.locals (store_of heap statics) moves s v next) c.in-Ok.ensures.kind
          ∙ c.in-Ok-kept.ensures statics next
          ∙ ap (λ h. Go (f.at + 1) (drop 3 f.stack) f.locals (store_of h statics)) (sym c.set_element.ensures)
          ∙ ap (λ h. Go h.at h.stack h.locals (store_of c.set_element.new.self statics)) (sym c.pass.ensures);
      keeps = ap (λ h. h.method) c.pass.ensures;
    }

pub returns-in-Err-kept-clause-row : goal.returns-in-Err-kept-clause-row
returns-in-Err-kept-clause-row g c = λ statics.
    let l = g.L.LookUps.linked c.args.links.now in
    let f = c.args.frame.now in
    let heap = c.args.heap.now in
    let moves = effect_moves c.args.moves in
    let v = c.in-Some.value in
    let fits : FitsSigned w32 c.in-Some.index = search rules in
    let kind : is_kind (of_references moves) v ≡ true = cc in
    let e = c.in-Ok.element in
    let next = replaced l f heap statics e.array (name_at heap e.array) (items_at heap e.array) e.place in
    let done = c.deed_of-in-Err-kept.ensures f (store_of heap statics) in
    record {
      effect =
          store_finds l f heap statics moves v c.in-Some.reference c.in-Some.index fits c.in-Some.ensures kind
          ∙ c.in-Ok.ensures.found (at_element l f heap statics moves v)
          ∙ ap (λ s. with_kept l f.method f.at f.locals (store_of heap statics) moves s v next) c.in-Ok.ensures.kind
          ∙ c.in-Err-kept.ensures statics next
          ∙ sym done.0;
      keeps = done.1;
    }
