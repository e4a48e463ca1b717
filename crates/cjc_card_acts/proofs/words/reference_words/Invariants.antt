use Rattle.std.proofs.Common.{◌≡◌, replicate}
use Rattle.cjc_frames.specs.declared.acts.Need.TheVariants.{ReferenceWord}
use Rattle.cjc_card_acts.proofs.words.reference_words.Given as goal

abbrev pub invariant-loop : goal.invariant-loop
invariant-loop l = l.needs ≡ replicate l.counter ReferenceWord
