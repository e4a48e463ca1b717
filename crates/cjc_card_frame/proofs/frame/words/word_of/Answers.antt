use Rattle.std.proofs.Common.{◌≡◌, rules, ap, ◌∙◌}
use Rattle.std.specs.Prelude.{FitsSigned}
use Rattle.std.specs.Int.{w32}
use Rattle.std.proofs.lemmas.Int.{to_z-of_z}
use Rattle.cjc_card_semantics.specs.Range.Words.{low_word, wide}
use Rattle.cjc_card_frame.specs.Meanings.{exact}
use Rattle.cjc_card_frame.proofs.FrameLaws.Cuts.{exact_word}
use Rattle.cjc_card_frame.proofs.frame.words.word_of.Goals as goal

pub returns-clause-is : goal.returns-clause-is
returns-clause-is c =
    let a = c.args in
    let r = c.low_word.result in
    let n = c.int_of.result in
    let fits_x : FitsSigned w32 a.x = c.ranges.x in
    let fits_y : FitsSigned w32 a.y = c.ranges.y in
    let fits : FitsSigned w32 r = search rules in
    let fits_n : FitsSigned w32 n = search rules in
    let value : r ≡ low_word n = simp to_z-of_z at c.low_word.ensures.is in
    let whole : n ≡ wide (exact w32 a.op a.x a.y) = simp to_z-of_z at c.int_of.ensures in
    to_z-of_z w32 r fits ∙ value ∙ ap (λ z. low_word z) whole ∙ exact_word a.op a.x a.y c.requires.first
    c.requires.second fits_x fits_y
