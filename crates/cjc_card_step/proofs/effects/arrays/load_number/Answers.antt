use Rattle.std.proofs.Common.{rules, ◌≡◌, ◌∙◌, ap, sym, drop, refl, ℕ, ℤ, List}
use Rattle.std.specs.Prelude.{FitsSigned}
use Rattle.std.specs.Int.{w32, cast_signed, cast_unsigned}
use Rattle.std.proofs.lemmas.Int.{to_z-of_z}
use Rattle.cjc_card_semantics.specs.Script.declared.value.Value.{Value}
use Rattle.cjc_card_semantics.specs.Script.declared.value.Value.TheVariants.{Num}
use Rattle.cjc_card_semantics.specs.Script.Sorts.{Element}
use Rattle.cjc_card_semantics.specs.Bytecode.Effects.{Stick, onward, words_of}
use Rattle.cjc_card_frame.specs.Meanings.{letter_of}
use Rattle.cjc_card_step.specs.Effects.Deeds.{EffectByToken, MemoryByToken, memory}
use Rattle.cjc_card_step.specs.Effects.Looks.{number_item}
use Rattle.cjc_card_step.proofs.effects.arrays.load_number.Goals as goal

pub returns-in_default : goal.returns-in_default
returns-in_default c = λ l statics next. record { same = c.in_default.ensures.is _; keeps = (refl, refl) }

pub returns-in_ok-put_value-in-Ok : goal.returns-in_ok-put_value-in-Ok
returns-in_ok-put_value-in-Ok c = λ l statics next.
    let w = c.args.cells.now in
    let heap = c.args.heap.now in
    let m : MemoryByToken = memory heap statics in
    let letter = letter_of c.args.letter in
    let i = c.in-Some.index in
    let fits : FitsSigned w32 i = search rules in
    let same : i ≡ cast_signed w32 (cast_unsigned w32 i) = sym (to_z-of_z w32 i fits) in
    let put : List Value → ℤ → EffectByToken = λ rest x. words_of letter (Num x) Stick (λ words. onward words
    c.args.room next w.locals m rest) in
    let go : ℕ → Element → List ℤ → ℕ → ℤ → EffectByToken = λ k element items n x. put (drop 2 w.stack) x in
    let r = c.in_ok-put_value-in-Ok.ensures m next in
    let x = c.in-Ok.item.number in
    let fits_x : FitsSigned w32 x = search rules in
    record {
      same =
          c.in-Some.ensures.is (λ j v rest. number_item letter heap v j (λ k element items n x. put rest x))
          ∙ ap (λ j. number_item letter heap c.in-Some.reference j go) same
          ∙ c.in-Ok.ensures.is go
          ∙ ap (λ z. put (drop 2 w.stack) z) (sym (to_z-of_z w32 x fits_x))
          ∙ r.same;
      keeps = r.keeps;
    }

pub returns-in-Err : goal.returns-in-Err
returns-in-Err c = λ l statics next.
    let w = c.args.cells.now in
    let heap = c.args.heap.now in
    let m : MemoryByToken = memory heap statics in
    let letter = letter_of c.args.letter in
    let i = c.in-Some.index in
    let fits : FitsSigned w32 i = search rules in
    let same : i ≡ cast_signed w32 (cast_unsigned w32 i) = sym (to_z-of_z w32 i fits) in
    let put : List Value → ℤ → EffectByToken = λ rest x. words_of letter (Num x) Stick (λ words. onward words
    c.args.room next w.locals m rest) in
    let go : ℕ → Element → List ℤ → ℕ → ℤ → EffectByToken = λ k element items n x. put (drop 2 w.stack) x in
    let done = c.deed_of.ensures next w m in
    record {
      same =
          c.in-Some.ensures.is (λ j v rest. number_item letter heap v j (λ k element items n x. put rest x))
          ∙ ap (λ j. number_item letter heap c.in-Some.reference j go) same
          ∙ c.in-Err.ensures.is go
          ∙ sym done.0;
      keeps = done.1;
    }
