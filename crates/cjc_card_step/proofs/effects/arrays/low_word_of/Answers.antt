use Rattle.std.proofs.Common.{rules, ◌≡◌, ◌∙◌, ap, ◌%◌, arith, pos, ℤ}
use Rattle.std.specs.Prelude.{FitsSigned}
use Rattle.std.specs.Int.{w32, cast_signed, cast_unsigned}
use Rattle.std.proofs.lemmas.Int.{ints, to_z-of_z}
use Rattle.cjc_card_semantics.specs.Range.Words.{low_word}
use Rattle.cjc_card_step.proofs.EffectsLaws.Stacks.{low_mod}
use Rattle.cjc_card_step.proofs.effects.arrays.low_word_of.Goals as goal

pub returns-clause-is : goal.returns-clause-is
returns-clause-is c =
    let r = c.low_word.result in
    let fits : FitsSigned w32 r = search rules in
    let low : ℤ = pos (c.args.n % 65536) in
    let fits_low : FitsSigned w32 low = record { sfits = omega (arith, ints) } in
    to_z-of_z w32 r fits
    ∙ c.low_word.ensures.is
    ∙ ap (λ z. low_word z) (to_z-of_z w32 low fits_low)
    ∙ low_mod c.args.n
