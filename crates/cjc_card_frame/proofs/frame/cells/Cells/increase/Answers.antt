use Rattle.std.proofs.Common.{◌≡◌, rules, ap, sym, ◌∙◌, ◌+ℤ◌}
use Rattle.std.specs.Prelude.{FitsSigned}
use Rattle.std.specs.Int.{w32}
use Rattle.std.proofs.lemmas.Int.{to_z-of_z}
use Rattle.cjc_card_semantics.specs.Range.Words.{low_word, wide}
use Rattle.cjc_card_semantics.specs.Bytecode.Calculations.{Fine}
use Rattle.cjc_card_frame.specs.Frame.Frames.{Words, number_of}
use Rattle.cjc_card_frame.proofs.FrameLaws.Increases.{word_increases}
use Rattle.cjc_card_frame.proofs.frame.cells.Cells.increase.Goals as goal

pub returns-in-Some : goal.returns-in-Some
returns-in-Some c = λ room.
    let s = c.args.self.now in
    let l = c.args.local in
    let by = c.args.by in
    let x = c.in-Some.x in
    let d = c.sum_of.result in
    let q = c.low_word.result in
    let fits_x : FitsSigned w32 x = search rules in
    let fits_by : FitsSigned w32 by = c.ranges.by in
    let fits_d : FitsSigned w32 d = search rules in
    let fits_q : FitsSigned w32 q = search rules in
    let a : d ≡ wide (x +ℤ by) = simp to_z-of_z at c.sum_of.ensures in
    let b : q ≡ low_word d = simp to_z-of_z at c.low_word.ensures.is in
    let n = simp to_z-of_z at c.set.ensures in
    record {
      result = word_increases l by room s.locals s.stack x d q (c.in-Some.ensures.is
          ∙ ap number_of c.local_word.ensures.is) a b ∙ ap (λ (w : Words). Fine w.stack w.locals) (sym n);
      keeps = tt;
    }
