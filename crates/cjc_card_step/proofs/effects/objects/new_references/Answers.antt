use Rattle.std.proofs.Common.{rules, ◌≡◌, ◌∙◌, ap, sym, drop, pos, ℤ, List, replicate, arith}
use Rattle.std.specs.Prelude.{FitsSigned, Some, unsigned_abs}
use Rattle.std.specs.Int.{w32, cast_signed, cast_unsigned}
use Rattle.std.proofs.lemmas.Int.{ints, to_z-of_z}
use Rattle.cjc_card_semantics.specs.Script.declared.value.Value.{Value}
use Rattle.cjc_card_semantics.specs.Script.declared.value.Value.TheVariants.{Null}
use Rattle.cjc_card_semantics.specs.Bytecode.Effects.{References, Stick, made, sized}
use Rattle.cjc_card_frame.proofs.FrameLaws.Tops.{top_number}
use Rattle.cjc_card_frame.specs.Objects.{class_of}
use Rattle.cjc_card_step.specs.Effects.Deeds.{EffectByToken, MemoryByToken, memory}
use Rattle.cjc_card_step.proofs.effects.objects.new_references.Goals as goal

pub returns-clause-row : goal.returns-clause-row
returns-clause-row c = λ l statics next.
    let w = c.args.cells.now in
    let m : MemoryByToken = memory c.args.heap.now statics in
    let class = class_of c.args.class in
    let z = c.in-Some.count in
    let fits : FitsSigned w32 z = search rules in
    let same : z ≡ cast_signed w32 (cast_unsigned w32 z) = sym (to_z-of_z w32 z fits) in
    let up : z ≡ pos (unsigned_abs z) = omega (arith, ints) in
    let go : ℤ → List Value → EffectByToken = λ n rest. sized n (λ k. made (References class (replicate k Null))
    c.args.room next w.locals m rest) in
    let r = c.in_ok-put_new.ensures.row statics next in
    record {
      same =
          top_number Stick w.stack go (Some z) c.in-Some.ensures.is
          ∙ ap (λ n. go n (drop 1 w.stack)) up
          ∙ ap (λ n. made (References class (replicate (unsigned_abs n) Null)) c.args.room next w.locals m
          (drop 1 w.stack)) same
          ∙ ap (λ thing. made thing c.args.room next w.locals m (drop 1 w.stack)) (sym c.in_ok-object.ensures)
          ∙ r.same;
      keeps = r.keeps;
    }
