use Rattle.std.proofs.Common.{rules, ◌≡◌, ap, arith, ◌∙◌, sym, negsuc}
use Rattle.std.specs.Int.{w32, int_wrapping_neg}
use Rattle.std.specs.Int.RustNames.{int_div}
use Rattle.std.specs.Prelude.{FitsSigned}
use Rattle.std.proofs.lemmas.Int.{ints, to_z-of_z, wrapping_neg_is}
use Rattle.cjc_jvm_semantics.specs.LowerRange.Words.{wide}
use Rattle.cjc_jvm_step.proofs.FrameLaws.Cuts.{quotient-minus_one}
use Rattle.cjc_jvm_step.proofs.frame.number.quotient_of.Goals as goal

pub returns-then-y-eqminus1 : goal.returns-then-y-eqminus1
returns-then-y-eqminus1 c =
    let x = c.args.x in
    let r = c.wrapping_neg.result in
    let fits_x : FitsSigned w32 x = c.ranges.x in
    let fits_y : FitsSigned w32 c.args.y = c.ranges.y in
    let fits : FitsSigned w32 r = search rules in
    let value : r ≡ int_wrapping_neg w32 x = simp to_z-of_z at c.wrapping_neg.ensures in
    let minus : c.args.y ≡ negsuc 0 = omega (arith, ints) in
    to_z-of_z w32 r fits ∙ value ∙ wrapping_neg_is w32 x fits_x ∙ ap (λ z. wide z) (sym (quotient-minus_one x))
    ∙ ap (λ y. wide (int_div x y)) (sym minus)
