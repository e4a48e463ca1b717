use Rattle.std.proofs.Common.{◌≡◌, ◌≢◌, rules, ap, sym, ◌∙◌, pos, arith}
use Rattle.std.specs.Prelude.{FitsSigned}
use Rattle.std.specs.Int.{w32}
use Rattle.std.proofs.lemmas.Int.{ints, to_z-of_z}
use Rattle.cjc_card_semantics.specs.Range.Words.{low_word, wide}
use Rattle.cjc_card_semantics.specs.Bytecode.Calculations.{Fine}
use Rattle.cjc_card_frame.specs.Meanings.{exact_division}
use Rattle.cjc_card_frame.specs.Frame.Frames.{Words}
use Rattle.cjc_card_frame.proofs.FrameLaws.Divisions.{words_divide}
use Rattle.cjc_card_frame.proofs.frame.cells.Cells.divide.Goals as goal

pub returns-in_ok-put-in-Some : goal.returns-in_ok-put-in-Some
returns-in_ok-put-in-Some c = λ operands room.
    let s = c.args.self.now in
    let x = c.in-Some.x in
    let y = c.in-Some.y in
    let d = c.divided.result in
    let q = c.low_word.result in
    let fits_x : FitsSigned w32 x = search rules in
    let fits_y : FitsSigned w32 y = search rules in
    let fits_d : FitsSigned w32 d = search rules in
    let fits_q : FitsSigned w32 q = search rules in
    let a : d ≡ wide (exact_division c.args.op x y) = simp to_z-of_z at c.divided.ensures in
    let b : q ≡ low_word d = simp to_z-of_z at c.low_word.ensures.is in
    let not_zero : y ≢ pos 0 = λ h. omega (arith, ints, h) in
    let n = simp to_z-of_z at c.in_ok-put-in-Some.ensures in
    record {
      result = words_divide (exact_division c.args.op) operands room s.locals s.stack x y d q c.in-Some.ensures.is
          not_zero a b ∙ ap (λ (w : Words). Fine w.stack w.locals) (sym n);
      keeps = tt;
    }
