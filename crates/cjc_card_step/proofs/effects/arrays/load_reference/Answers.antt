use Rattle.std.proofs.Common.{rules, ◌≡◌, ◌∙◌, ap, sym, drop, refl, ℕ, List, [], ◌∷◌}
use Rattle.std.specs.Prelude.{FitsSigned}
use Rattle.std.specs.Int.{w32, cast_signed, cast_unsigned}
use Rattle.std.proofs.lemmas.Int.{to_z-of_z}
use Rattle.cjc_card_semantics.specs.Script.declared.value.Value.{Value}
use Rattle.cjc_card_semantics.specs.Bytecode.Effects.{onward}
use Rattle.cjc_card_semantics.specs.Machine.Classes.{Class}
use Rattle.cjc_card_step.specs.Effects.Deeds.{EffectByToken, MemoryByToken, memory}
use Rattle.cjc_card_step.specs.Effects.Looks.{reference_item}
use Rattle.cjc_card_step.proofs.effects.arrays.load_reference.Goals as goal

pub returns-in_default : goal.returns-in_default
returns-in_default c = λ l statics next. record { same = c.in_default.ensures.is _; keeps = (refl, refl) }

pub returns-in_ok-put_any-in-Ok : goal.returns-in_ok-put_any-in-Ok
returns-in_ok-put_any-in-Ok c = λ l statics next.
    let w = c.args.cells.now in
    let heap = c.args.heap.now in
    let m : MemoryByToken = memory heap statics in
    let i = c.in-Some.index in
    let fits : FitsSigned w32 i = search rules in
    let same : i ≡ cast_signed w32 (cast_unsigned w32 i) = sym (to_z-of_z w32 i fits) in
    let put : List Value → Value → EffectByToken = λ rest x. onward (x ∷ []) c.args.room next w.locals m rest in
    let go : ℕ → Class → List Value → ℕ → Value → EffectByToken = λ k class items n x. put (drop 2 w.stack) x in
    let r = c.in_ok-put_any-in-Ok.ensures m next in
    record {
      same =
          c.in-Some.ensures.is (λ j v rest. reference_item heap v j (λ k class items n x. put rest x))
          ∙ ap (λ j. reference_item heap c.in-Some.reference j go) same
          ∙ c.in-Ok.ensures.is go
          ∙ r.same;
      keeps = r.keeps;
    }

pub returns-in-Err : goal.returns-in-Err
returns-in-Err c = λ l statics next.
    let w = c.args.cells.now in
    let heap = c.args.heap.now in
    let m : MemoryByToken = memory heap statics in
    let i = c.in-Some.index in
    let fits : FitsSigned w32 i = search rules in
    let same : i ≡ cast_signed w32 (cast_unsigned w32 i) = sym (to_z-of_z w32 i fits) in
    let put : List Value → Value → EffectByToken = λ rest x. onward (x ∷ []) c.args.room next w.locals m rest in
    let go : ℕ → Class → List Value → ℕ → Value → EffectByToken = λ k class items n x. put (drop 2 w.stack) x in
    let done = c.deed_of.ensures next w m in
    record {
      same =
          c.in-Some.ensures.is (λ j v rest. reference_item heap v j (λ k class items n x. put rest x))
          ∙ ap (λ j. reference_item heap c.in-Some.reference j go) same
          ∙ c.in-Err.ensures.is go
          ∙ sym done.0;
      keeps = done.1;
    }
