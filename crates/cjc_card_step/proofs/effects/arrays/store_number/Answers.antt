use Rattle.std.proofs.Common.{rules, ◌≡◌, ◌∙◌, ◌+◌, ap, sym, drop, refl, ℕ, ℤ, List}
use Rattle.std.specs.Prelude.{FitsSigned, slice_get, slice_set}
use Rattle.std.specs.Int.{w32, cast_signed, cast_unsigned}
use Rattle.std.proofs.lemmas.Int.{to_z-of_z}
use Rattle.cjc_card_semantics.specs.Script.declared.value.Value.{Value}
use Rattle.cjc_card_semantics.specs.Script.Sorts.{Element}
use Rattle.cjc_card_semantics.specs.Bytecode.Calculations.{one_number, one_value}
use Rattle.cjc_card_semantics.specs.Bytecode.Effects.{Go, Numbers, Stick, item_of, with_thing}
use Rattle.cjc_card_frame.specs.Frame.Frames.{Words}
use Rattle.cjc_card_frame.specs.Meanings.{letter_of}
use Rattle.cjc_card_frame.specs.Objects.{element_of}
use Rattle.cjc_card_step.specs.Effects.Deeds.{EffectByToken, Heap, MemoryByToken, memory}
use Rattle.cjc_card_step.specs.Effects.Looks.{number_item, numbers_of}
use Rattle.cjc_card_step.proofs.EffectsLaws.Places.{number_is_put}
use Rattle.cjc_card_step.proofs.effects.arrays.store_number.Goals as goal

pub returns-in_default-value_and_number-clause-row : goal.returns-in_default-value_and_number-clause-row
returns-in_default-value_and_number-clause-row c = λ l statics next.
    let w = c.args.cells.now in
    let heap = c.args.heap.now in
    let m : MemoryByToken = memory heap statics in
    let letter = letter_of c.args.letter in
    let go : Value → List Value → ℕ → Element → List ℤ → ℕ → ℤ → EffectByToken = λ v rest k element items n old. Go next
    rest w.locals (with_thing m k (Numbers element (slice_set items n (item_of v)))) in
    record {
      same =
          c.in-Some.ensures.is (λ v under. one_number Stick under (λ i below. one_value Stick below
          (λ r rest. number_item letter heap r i (go v rest))))
          ∙ c.in_default-value_and_number.ensures.is (λ i r rest. number_item letter heap r i
          (go c.in-Some.value rest));
      keeps = (refl, refl);
    }

pub returns-in-Err-clause-row : goal.returns-in-Err-clause-row
returns-in-Err-clause-row c = λ l statics next.
    let w = c.args.cells.now in
    let heap = c.args.heap.now in
    let m : MemoryByToken = memory heap statics in
    let letter = letter_of c.args.letter in
    let go : Value → List Value → ℕ → Element → List ℤ → ℕ → ℤ → EffectByToken = λ v rest k element items n old. Go next
    rest w.locals (with_thing m k (Numbers element (slice_set items n (item_of v)))) in
    let v = c.in-Some.value in
    let i = c.in-Some-value_and_number.index in
    let r = c.in-Some-value_and_number.reference in
    let rest = drop (c.in-Some.taken + 2) w.stack in
    let fits : FitsSigned w32 i = search rules in
    let same : i ≡ cast_signed w32 (cast_unsigned w32 i) = sym (to_z-of_z w32 i fits) in
    let done = c.deed_of.ensures next w m in
    record {
      same =
          c.in-Some.ensures.is (λ v under. one_number Stick under (λ i below. one_value Stick below
          (λ r rest. number_item letter heap r i (go v rest))))
          ∙ c.in-Some-value_and_number.ensures.is (λ i r rest. number_item letter heap r i (go v rest))
          ∙ ap (λ j. number_item letter heap r j (go v rest)) same
          ∙ c.in-Err.ensures.is (go v rest)
          ∙ sym done.0;
      keeps = done.1;
    }

pub returns-in-Ok-clause-row : goal.returns-in-Ok-clause-row
returns-in-Ok-clause-row c = λ l statics next.
    let w = c.args.cells.now in
    let heap = c.args.heap.now in
    let m : MemoryByToken = memory heap statics in
    let letter = letter_of c.args.letter in
    let go : Value → List Value → ℕ → Element → List ℤ → ℕ → ℤ → EffectByToken = λ v rest k element items n old. Go next
    rest w.locals (with_thing m k (Numbers element (slice_set items n (item_of v)))) in
    let v = c.in-Some.value in
    let i = c.in-Some-value_and_number.index in
    let r = c.in-Some-value_and_number.reference in
    let rest = drop (c.in-Some.taken + 2) w.stack in
    let item = c.in-Ok.item in
    let items = numbers_of (slice_get heap item.array) in
    let q = c.item_of.result in
    let fits : FitsSigned w32 i = search rules in
    let same : i ≡ cast_signed w32 (cast_unsigned w32 i) = sym (to_z-of_z w32 i fits) in
    let fits_q : FitsSigned w32 q = search rules in
    let put : cast_signed w32 (cast_unsigned w32 q) ≡ item_of v = to_z-of_z w32 q fits_q ∙ c.item_of.ensures in
    record {
      same =
          c.in-Some.ensures.is (λ v under. one_number Stick under (λ i below. one_value Stick below
          (λ r rest. number_item letter heap r i (go v rest))))
          ∙ c.in-Some-value_and_number.ensures.is (λ i r rest. number_item letter heap r i (go v rest))
          ∙ ap (λ j. number_item letter heap r j (go v rest)) same
          ∙ c.in-Ok.ensures.is (go v rest)
          ∙ ap (λ z. Go next rest w.locals (memory (slice_set heap item.array (Numbers (element_of item.element)
          (slice_set items item.place z))) statics)) (sym put)
          ∙ ap (λ (h : Heap). Go next rest w.locals (memory h statics)) (sym (c.set_number.ensures
          ∙ number_is_put heap item.array item.place _ (element_of item.element) items c.in-Ok.ensures.there))
          ∙ ap (λ (x : Words). Go next x.stack x.locals (memory c.set_number.new.self statics)) (sym c.forget.ensures);
      keeps = tt;
    }
