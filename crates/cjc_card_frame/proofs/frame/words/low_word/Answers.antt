use Rattle.std.proofs.Common.{◌≡◌, rules, subst, sym, ◌∙◌}
use Rattle.std.specs.Prelude.{FitsSigned}
use Rattle.std.specs.Int.{w16, w32}
use Rattle.std.proofs.lemmas.Int.{to_z-of_z, SFits-int_wrap}
use Rattle.cjc_card_semantics.specs.Range.Words.{low_word}
use Rattle.cjc_card_frame.proofs.frame.words.low_word.Goals as goal

pub returns-clause-fits : goal.returns-clause-fits
returns-clause-fits c =
    let z = c.args.z in
    let r = c.short_of.result in
    let fits_z : FitsSigned w32 z = c.ranges.z in
    let fits : FitsSigned w32 r = search rules in
    let value : r ≡ low_word z = simp to_z-of_z at c.short_of.ensures in
    subst (FitsSigned w16) (sym (to_z-of_z w32 r fits ∙ value)) (SFits-int_wrap w16 z)
