use Rattle.std.proofs.Common.{rules, ◌≡◌, ap, ◌∙◌, pos, ◌+ℤ◌, ◌*ℤ◌}
use Rattle.std.specs.Prelude.{FitsSigned}
use Rattle.std.specs.Int.{w32, int_rem_euclid}
use Rattle.std.proofs.lemmas.Int.{to_z-of_z}
use Rattle.cjc_card_semantics.specs.Range.Words.{wide}
use Rattle.cjc_card_frame.proofs.FrameLaws.Cuts.{spelt_is}
use Rattle.cjc_card_frame.proofs.frame.words.spelt_by.Goals as goal

pub returns : goal.returns
returns c =
    let high = c.args.high in
    let low = c.args.low in
    let r = c.sum_of.result in
    let p = c.product_of.result in
    let e = c.rem_euclid.result in
    let high_fits : FitsSigned w32 high = c.ranges.high in
    let low_fits : FitsSigned w32 low = c.ranges.low in
    let fits : FitsSigned w32 r = search rules in
    let fits_p : FitsSigned w32 p = search rules in
    let fits_e : FitsSigned w32 e = search rules in
    let rest : e ≡ int_rem_euclid low (pos 65536) = simp to_z-of_z at c.rem_euclid.ensures.value in
    let times : p ≡ wide (high *ℤ pos 65536) = simp to_z-of_z at c.product_of.ensures in
    let value : r ≡ wide (p +ℤ e) = simp to_z-of_z at c.sum_of.ensures in
    to_z-of_z w32 r fits ∙ value ∙ ap (λ z. wide (z +ℤ e)) times ∙ spelt_is high low e c.requires rest
