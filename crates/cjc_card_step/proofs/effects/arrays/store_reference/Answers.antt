use Rattle.std.proofs.Common.{rules, ◌≡◌, ◌∙◌, ◌+◌, ap, sym, drop, refl, ℕ, List}
use Rattle.std.specs.Prelude.{FitsSigned, slice_get, slice_set}
use Rattle.std.specs.Int.{w32, cast_signed, cast_unsigned}
use Rattle.std.proofs.lemmas.Int.{to_z-of_z}
use Rattle.cjc_card_semantics.specs.Script.declared.value.Value.{Value}
use Rattle.cjc_card_semantics.specs.Bytecode.Calculations.{one_number, one_value}
use Rattle.cjc_card_semantics.specs.Bytecode.Effects.{Go, References, Stick, kept, with_thing}
use Rattle.cjc_card_semantics.specs.Machine.Loaded.{Loaded}
use Rattle.cjc_card_semantics.specs.Machine.Classes.{Class}
use Rattle.cjc_card_semantics.specs.Machine.ByToken.{classes}
use Rattle.cjc_card_frame.specs.Frame.Frames.{Words}
use Rattle.cjc_card_frame.specs.Objects.{class_of}
use Rattle.cjc_card_step.specs.Effects.Deeds.{EffectByToken, Heap, MemoryByToken, memory}
use Rattle.cjc_card_step.specs.Effects.Looks.{reference_item, references_of}
use Rattle.cjc_card_step.proofs.EffectsLaws.Places.{reference_is_put}
use Rattle.cjc_card_step.proofs.effects.arrays.store_reference.Goals as goal

-- what a store does with the element that it has found
abbrev at_item : Loaded → (next : ℕ) → Words → Heap → MemoryByToken → Value → List Value → ℕ → Class → List Value → ℕ
    → Value → EffectByToken
at_item l next w heap m v rest k class items n old =
    kept (classes l) heap class v (Go next rest w.locals (with_thing m k (References class (slice_set items n v))))

pub returns-in_default-value_and_number-clause-row : goal.returns-in_default-value_and_number-clause-row
returns-in_default-value_and_number-clause-row g c = λ room statics next.
    let w = c.args.cells.now in
    let heap = c.args.heap.now in
    let m : MemoryByToken = memory heap statics in
    let go = at_item (g.L.LookUps.loaded c.args.links.now) next w heap m in
    record {
      same =
          c.in-Some.ensures.is (λ v under. one_number Stick under (λ i below. one_value Stick below
          (λ r rest. reference_item heap r i (go v rest))))
          ∙ c.in_default-value_and_number.ensures.is (λ i r rest. reference_item heap r i (go c.in-Some.value rest));
      keeps = (refl, refl);
    }

pub returns-in-Err-clause-row : goal.returns-in-Err-clause-row
returns-in-Err-clause-row g c = λ room statics next.
    let w = c.args.cells.now in
    let heap = c.args.heap.now in
    let m : MemoryByToken = memory heap statics in
    let go = at_item (g.L.LookUps.loaded c.args.links.now) next w heap m in
    let v = c.in-Some.value in
    let i = c.in-Some-value_and_number.index in
    let r = c.in-Some-value_and_number.reference in
    let rest = drop (c.in-Some.taken + 2) w.stack in
    let fits : FitsSigned w32 i = search rules in
    let same : i ≡ cast_signed w32 (cast_unsigned w32 i) = sym (to_z-of_z w32 i fits) in
    let done = c.deed_of.ensures next w m in
    record {
      same =
          c.in-Some.ensures.is (λ v under. one_number Stick under (λ i below. one_value Stick below
          (λ r rest. reference_item heap r i (go v rest))))
          ∙ c.in-Some-value_and_number.ensures.is (λ i r rest. reference_item heap r i (go v rest))
          ∙ ap (λ j. reference_item heap r j (go v rest)) same
          ∙ c.in-Err.ensures.is (go v rest)
          ∙ sym done.0;
      keeps = done.1;
    }

pub returns-in-Ok-kept-clause-row : goal.returns-in-Ok-kept-clause-row
returns-in-Ok-kept-clause-row g c = λ room statics next.
    let w = c.args.cells.now in
    let heap = c.args.heap.now in
    let m : MemoryByToken = memory heap statics in
    let go = at_item (g.L.LookUps.loaded c.args.links.now) next w heap m in
    let v = c.in-Some.value in
    let i = c.in-Some-value_and_number.index in
    let r = c.in-Some-value_and_number.reference in
    let rest = drop (c.in-Some.taken + 2) w.stack in
    let item = c.in-Ok.item in
    let items = references_of (slice_get heap item.array) in
    let fits : FitsSigned w32 i = search rules in
    let same : i ≡ cast_signed w32 (cast_unsigned w32 i) = sym (to_z-of_z w32 i fits) in
    record {
      same =
          c.in-Some.ensures.is (λ v under. one_number Stick under (λ i below. one_value Stick below
          (λ r rest. reference_item heap r i (go v rest))))
          ∙ c.in-Some-value_and_number.ensures.is (λ i r rest. reference_item heap r i (go v rest))
          ∙ ap (λ j. reference_item heap r j (go v rest)) same
          ∙ c.in-Ok.ensures.is (go v rest)
          ∙ c.in-Ok-kept.ensures (Go next rest w.locals
          (memory (slice_set heap item.array (References (class_of item.class) (slice_set items item.place v)))
          statics))
          ∙ ap (λ (h : Heap). Go next rest w.locals (memory h statics)) (sym (c.set_reference.ensures
          ∙ reference_is_put heap item.array item.place v (class_of item.class) items c.in-Ok.ensures.there))
          ∙ ap (λ (x : Words). Go next x.stack x.locals (memory c.set_reference.new.self statics))
          (sym c.forget.ensures);
      keeps = tt;
    }

pub returns-in-Err-kept-clause-row : goal.returns-in-Err-kept-clause-row
returns-in-Err-kept-clause-row g c = λ room statics next.
    let w = c.args.cells.now in
    let heap = c.args.heap.now in
    let m : MemoryByToken = memory heap statics in
    let go = at_item (g.L.LookUps.loaded c.args.links.now) next w heap m in
    let v = c.in-Some.value in
    let i = c.in-Some-value_and_number.index in
    let r = c.in-Some-value_and_number.reference in
    let rest = drop (c.in-Some.taken + 2) w.stack in
    let item = c.in-Ok.item in
    let items = references_of (slice_get heap item.array) in
    let fits : FitsSigned w32 i = search rules in
    let same : i ≡ cast_signed w32 (cast_unsigned w32 i) = sym (to_z-of_z w32 i fits) in
    let done = c.deed_of-in-Err-kept.ensures next w m in
    record {
      same =
          c.in-Some.ensures.is (λ v under. one_number Stick under (λ i below. one_value Stick below
          (λ r rest. reference_item heap r i (go v rest))))
          ∙ c.in-Some-value_and_number.ensures.is (λ i r rest. reference_item heap r i (go v rest))
          ∙ ap (λ j. reference_item heap r j (go v rest)) same
          ∙ c.in-Ok.ensures.is (go v rest)
          ∙ c.in-Err-kept.ensures (Go next rest w.locals
          (memory (slice_set heap item.array (References (class_of item.class) (slice_set items item.place v)))
          statics))
          ∙ sym done.0;
      keeps = done.1;
    }
