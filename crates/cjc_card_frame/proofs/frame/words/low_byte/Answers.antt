use Rattle.std.proofs.Common.{◌≡◌, rules, subst, sym, ◌∙◌, arith}
use Rattle.std.specs.Prelude.{FitsSigned}
use Rattle.std.specs.Int.{w16, w32}
use Rattle.std.proofs.lemmas.Int.{to_z-of_z}
use Rattle.cjc_card_semantics.specs.Range.Words.{low_byte}
use Rattle.cjc_card_semantics.proofs.RangeWords.{low_byte_fits}
use Rattle.cjc_card_frame.proofs.frame.words.low_byte.Goals as goal

pub returns-clause-fits : goal.returns-clause-fits
returns-clause-fits c =
    let z = c.args.z in
    let r = c.byte_of.result in
    let fits_z : FitsSigned w32 z = c.ranges.z in
    let fits : FitsSigned w32 r = search rules in
    let value : r ≡ low_byte z = simp to_z-of_z at c.byte_of.ensures in
    let few = (low_byte_fits z).sfits in
    let word : FitsSigned w16 (low_byte z) = record { sfits = omega (arith, few) } in
    subst (FitsSigned w16) (sym (to_z-of_z w32 r fits ∙ value)) word
