use Rattle.std.proofs.Common.{rules, ◌≡◌, ◌<◌, ◌%◌, ap, ◌∙◌, arith}
use Rattle.std.specs.Int.{w32, int_shl, cast_unsigned}
use Rattle.std.specs.Prelude.{FitsSigned}
use Rattle.std.proofs.lemmas.Int.{to_z-of_z}
use Rattle.cjc_jvm_semantics.specs.LowerRange.Words.{shift_distance}
use Rattle.cjc_jvm_step.proofs.FrameLaws.Shifts.{shifted_up}
use Rattle.cjc_jvm_step.proofs.frame.number.left_shift_of.Goals as goal

pub returns : goal.returns
returns c =
    let x = c.args.x in
    let d = c.args.d in
    let r = c.wrapping_shl.result in
    let fits_x : FitsSigned w32 x = c.ranges.x in
    let fits_d : FitsSigned w32 d = c.ranges.d in
    let fits : FitsSigned w32 r = search rules in
    let far : c.cast_unsigned.result ≡ cast_unsigned w32 d = simp to_z-of_z at c.cast_unsigned.ensures in
    let value : r ≡ int_shl w32 x (c.cast_unsigned.result % 32) = simp to_z-of_z at c.wrapping_shl.ensures in
    let short : shift_distance d < 32 = omega arith in
    to_z-of_z w32 r fits ∙ value ∙ ap (λ n. int_shl w32 x (n % 32)) far ∙ shifted_up x (shift_distance d) fits_x short
