use Rattle.std.proofs.Common.{◌≡◌, ℕ, ℤ, pos, ◌+ℤ◌, ◌-ℤ◌, ◌∙◌, ap, arith, w64, to_z, of_z}
use Rattle.std.proofs.lemmas.Int.{ints}
use Rattle.cjc_code.specs.Table.{count}
use Rattle.cjc_code.proofs.cutting.values.Goals as goal

through : (n : ℕ) (y z : ℤ) → n ≡ count y → y ≡ z → n ≡ count z
through n y z h e = h ∙ ap count e

pub returns : goal.returns
returns c =
    let span = to_z w64
    (of_z w64 (to_z w64 (of_z w64 (to_z w64 (of_z w64 c.from.result) -ℤ to_z w64 (of_z w64 c.from-2.result))) +ℤ pos
    1)) in
    let values = (c.args.high -ℤ c.args.low) +ℤ pos 1 in
    let e : span ≡ values = omega (arith, ints) in
    through c.count.result span values c.count.ensures e
