use Rattle.std.proofs.Common.{rules, ◌≡◌, ◌∙◌}
use Rattle.std.specs.Int.{w32, int_wrapping_neg}
use Rattle.std.specs.Prelude.{FitsSigned}
use Rattle.std.proofs.lemmas.Int.{to_z-of_z, wrapping_neg_is}
use Rattle.cjc_jvm_step.proofs.frame.number.negation_of.Goals as goal

pub returns : goal.returns
returns c =
    let x = c.args.x in
    let r = c.wrapping_neg.result in
    let fits_x : FitsSigned w32 x = c.ranges.x in
    let fits : FitsSigned w32 r = search rules in
    let value : r ≡ int_wrapping_neg w32 x = simp to_z-of_z at c.wrapping_neg.ensures in
    to_z-of_z w32 r fits ∙ value ∙ wrapping_neg_is w32 x fits_x
