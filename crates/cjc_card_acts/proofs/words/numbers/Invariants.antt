use Rattle.std.proofs.Common.{◌≡◌, replicate}
use Rattle.cjc_frames.specs.declared.acts.Given.TheVariants.{ANumber}
use Rattle.cjc_card_acts.proofs.words.numbers.Given as goal

abbrev pub invariant-loop : goal.invariant-loop
invariant-loop l = l.words ≡ replicate l.counter ANumber
