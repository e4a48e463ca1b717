use Rattle.std.proofs.Common.{◌≡◌, rules, ap, sym, ◌∙◌, ◌+◌, ◌+ℤ◌}
use Rattle.std.specs.Prelude.{FitsSigned, Some, slice_set}
use Rattle.std.specs.Int.{w32}
use Rattle.std.proofs.lemmas.Int.{to_z-of_z}
use Rattle.cjc_card_semantics.specs.Script.declared.value.Value.TheVariants.{Num}
use Rattle.cjc_card_semantics.specs.Range.Words.{low_word}
use Rattle.cjc_card_semantics.specs.Bytecode.Numbers.{high_word, spelt_by}
use Rattle.cjc_card_semantics.specs.Bytecode.Calculations.{Fine}
use Rattle.cjc_card_frame.specs.Frame.Frames.{Words}
use Rattle.cjc_card_frame.proofs.FrameLaws.Increases.{int_increases}
use Rattle.cjc_card_frame.proofs.frame.cells.Cells.increase_int.Goals as goal

pub returns-in-Some : goal.returns-in-Some
returns-in-Some c = λ room.
    let s = c.args.self.now in
    let l = c.args.local in
    let by = c.args.by in
    let x = c.in-Some.high in
    let y = c.in-Some.low in
    let z = c.spelt_by.result in
    let p = c.increased-high.result in
    let fits_x : FitsSigned w32 x = search rules in
    let fits_y : FitsSigned w32 y = search rules in
    let fits_by : FitsSigned w32 by = c.ranges.by in
    let fits_z : FitsSigned w32 z = search rules in
    let fits_a : FitsSigned w32 p.0 = search rules in
    let fits_b : FitsSigned w32 p.1 = search rules in
    let a : z ≡ spelt_by x y = simp to_z-of_z at c.spelt_by.ensures in
    let f : p.0 ≡ high_word (z +ℤ by) = simp to_z-of_z at c.increased-high.ensures.high in
    let g : p.1 ≡ low_word (z +ℤ by) = simp to_z-of_z at c.increased-high.ensures.low in
    let m = simp to_z-of_z at c.set.ensures in
    let n = simp to_z-of_z at c.set-in-Some.ensures in
    record {
      result = int_increases l by room s.locals s.stack x y z p.0 p.1 c.in-Some.ensures.is a f g
          ∙ ap (λ (w : Words). Fine w.stack (slice_set w.locals (l + 1) (Some (Num p.1)))) (sym m)
          ∙ ap (λ (w : Words). Fine w.stack w.locals) (sym n);
      keeps = tt;
    }
