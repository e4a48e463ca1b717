use Rattle.std.proofs.Common.{rules, ◌≡◌, ◌∙◌, ap, arith, refl, pos, ◌≤ℤ◌, ◌<ℤ◌, ◌^◌, ◌-ℤ◌, ℤ}
use Rattle.std.specs.Int.{w16, w32, w64, cast_signed, cast_unsigned, int_rem_euclid}
use Rattle.std.specs.Prelude.{FitsSigned}
use Rattle.std.proofs.lemmas.Int.{ints, to_z-of_z}
use mir.Val.{bits, hbits}
use Rattle.cjc_jvm_step.proofs.FrameLaws.Cuts.{cut_low, cut_high}
use Rattle.cjc_card_frame.proofs.FrameLaws.Cuts.{few_bits}
use Rattle.cjc_card_frame.proofs.frame.words.low_word_of_long.Goals as goal

both : (r : ℤ) → FitsSigned w64 r → FitsSigned w32 r
    → cast_signed w32 (cast_unsigned w32 (cast_signed w64 (cast_unsigned w64 r))) ≡ r
both r f g = ap (λ z. cast_signed w32 (cast_unsigned w32 z)) (to_z-of_z w64 r f) ∙ to_z-of_z w32 r g

wider : (r : ℤ) → FitsSigned w32 r → FitsSigned w64 r
wider r f = let a = f.sfits in record { sfits = omega (arith, a) }

pub returns-then-low-lt32768-clause-is : goal.returns-then-low-lt32768-clause-is
returns-then-low-lt32768-clause-is c =
    let z = c.args.z in
    let r = c.rem_euclid-low.result in
    let fits_z : FitsSigned w64 z = c.ranges.z in
    let fits : FitsSigned w64 r = search rules in
    let value : r ≡ int_rem_euclid z (pos 65536) = simp to_z-of_z at c.rem_euclid-low.ensures.value in
    let small : FitsSigned w32 r = few_bits r (omega (arith, ints)) (omega (arith, ints)) in
    both r fits small ∙ cut_low w16 z r value (omega (arith, ints)) (omega (arith, ints))

pub returns-else-low-lt32768-clause-is : goal.returns-else-low-lt32768-clause-is
returns-else-low-lt32768-clause-is c =
    let z = c.args.z in
    let r = c.rem_euclid-low.result in
    let fits_z : FitsSigned w64 z = c.ranges.z in
    let fits : FitsSigned w64 r = search rules in
    let value : r ≡ int_rem_euclid z (pos 65536) = simp to_z-of_z at c.rem_euclid-low.ensures.value in
    let low : pos (2 ^ hbits w16) ≤ℤ r = omega (arith, ints) in
    let high : r <ℤ pos (2 ^ bits w16) = omega (arith, ints) in
    let small : FitsSigned w32 (r -ℤ pos 65536) = few_bits (r -ℤ pos 65536) (omega (arith, ints)) (omega (arith, ints))
    in
    let wide : FitsSigned w64 (r -ℤ pos 65536) = wider (r -ℤ pos 65536) small in
    ap (λ x. cast_signed w32 (cast_unsigned w32 (cast_signed w64 (cast_unsigned w64 (x -ℤ pos 65536)))))
    (to_z-of_z w64 r fits)
    ∙ both (r -ℤ pos 65536) wide small
    ∙ cut_high w16 z r refl value low high
