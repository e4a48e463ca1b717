use Rattle.std.proofs.Common.{rules, ◌≡◌, ◌∙◌, ap, sym, drop, pos, ℤ, List, ◌∷◌}
use Rattle.std.specs.Prelude.{FitsSigned}
use Rattle.std.specs.Int.{w32, cast_signed, cast_unsigned}
use Rattle.std.proofs.lemmas.Int.{to_z-of_z}
use Rattle.cjc_card_semantics.specs.Range.Words.{low_word}
use Rattle.cjc_card_semantics.specs.Script.declared.value.Value.{Value}
use Rattle.cjc_card_semantics.specs.Script.declared.value.Value.TheVariants.{Num}
use Rattle.cjc_card_semantics.specs.Bytecode.Effects.{Go, Stick, length_in, thing_of, with_some}
use Rattle.cjc_card_frame.specs.Frame.Frames.{Words}
use Rattle.cjc_card_step.specs.Effects.Deeds.{EffectByToken, MemoryByToken, memory}
use Rattle.cjc_card_step.proofs.EffectsLaws.Stacks.{value_below}
use Rattle.cjc_card_step.proofs.effects.arrays.array_length.Goals as goal

pub returns-in_ok-put-in-Ok : goal.returns-in_ok-put-in-Ok
returns-in_ok-put-in-Ok c = λ l room statics next.
    let w = c.args.cells.now in
    let heap = c.args.heap.now in
    let m : MemoryByToken = memory heap statics in
    let n = c.in-Ok.length in
    let fits : FitsSigned w32 n = search rules in
    let same : n ≡ cast_signed w32 (cast_unsigned w32 n) = sym (to_z-of_z w32 n fits) in
    let last : ℤ → List Value → EffectByToken = λ z rest. Go next (Num z ∷ rest) w.locals m in
    let go : Value → List Value → EffectByToken =
    λ r rest. thing_of heap r (λ k. length_in (λ n. last (low_word (pos n)) rest)) in
    record {
      same =
          value_below Stick 0 w.stack go
          ∙ ap (λ o. with_some Stick o (λ v. go v (drop 1 w.stack))) (sym c.in-Some.ensures.is)
          ∙ c.in-Ok.ensures.is (λ z. last z (drop 1 w.stack))
          ∙ ap (λ z. last z (drop 1 w.stack)) same
          ∙ ap (λ (x : Words). Go next x.stack x.locals m) (sym c.in_ok-put-in-Ok.ensures);
      keeps = tt;
    }

pub returns-in-Err : goal.returns-in-Err
returns-in-Err c = λ l room statics next.
    let w = c.args.cells.now in
    let heap = c.args.heap.now in
    let m : MemoryByToken = memory heap statics in
    let last : ℤ → List Value → EffectByToken = λ z rest. Go next (Num z ∷ rest) w.locals m in
    let go : Value → List Value → EffectByToken =
    λ r rest. thing_of heap r (λ k. length_in (λ n. last (low_word (pos n)) rest)) in
    let done = c.deed_of.ensures next w m in
    record {
      same =
          value_below Stick 0 w.stack go
          ∙ ap (λ o. with_some Stick o (λ v. go v (drop 1 w.stack))) (sym c.in-Some.ensures.is)
          ∙ c.in-Err.ensures.is (λ z. last z (drop 1 w.stack))
          ∙ sym done.0;
      keeps = done.1;
    }
