use Rattle.std.proofs.Common.{rules, ◌≡◌, ◌∙◌, arith, refl, pos, ◌≤ℤ◌, ◌<ℤ◌, ◌^◌}
use Rattle.std.specs.Int.{w16, w32, int_rem_euclid}
use Rattle.std.specs.Prelude.{FitsSigned}
use Rattle.std.proofs.lemmas.Int.{ints, to_z-of_z}
use mir.Val.{bits, hbits}
use Rattle.cjc_jvm_step.proofs.FrameLaws.Cuts.{cut_low, cut_high}
use Rattle.cjc_jvm_step.proofs.frame.number.short_of.Goals as goal

pub returns-then-low-lt32768 : goal.returns-then-low-lt32768
returns-then-low-lt32768 c =
    let x = c.args.x in
    let r = c.rem_euclid-low.result in
    let fits_x : FitsSigned w32 x = c.ranges.x in
    let fits : FitsSigned w32 r = search rules in
    let value : r ≡ int_rem_euclid x (pos 65536) = simp to_z-of_z at c.rem_euclid-low.ensures.value in
    to_z-of_z w32 r fits ∙ cut_low w16 x r value (omega (arith, ints)) (omega (arith, ints))

pub returns-else-low-lt32768 : goal.returns-else-low-lt32768
returns-else-low-lt32768 c =
    let x = c.args.x in
    let r = c.rem_euclid-low.result in
    let fits_x : FitsSigned w32 x = c.ranges.x in
    let fits : FitsSigned w32 r = search rules in
    let value : r ≡ int_rem_euclid x (pos 65536) = simp to_z-of_z at c.rem_euclid-low.ensures.value in
    let low : pos (2 ^ hbits w16) ≤ℤ r = omega (arith, ints) in
    let high : r <ℤ pos (2 ^ bits w16) = omega (arith, ints) in
    let same = cut_high w16 x r refl value low high in
    omega (arith, ints, same)
