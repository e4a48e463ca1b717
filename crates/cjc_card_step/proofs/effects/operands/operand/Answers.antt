use Rattle.std.proofs.Common.{rules, ◌∙◌, sym, subst}
use Rattle.std.specs.Prelude.{FitsSigned}
use Rattle.std.specs.Int.{w8, w32}
use Rattle.std.proofs.lemmas.Int.{to_z-of_z, SFits-int_wrap}
use Rattle.cjc_card_step.proofs.effects.operands.operand.Goals as goal

pub returns-in-Some-number-clause-fits : goal.returns-in-Some-number-clause-fits
returns-in-Some-number-clause-fits c =
    let r = c.low_byte.result in
    let fits : FitsSigned w32 r = search rules in
    rw c.in-Byte.is (subst (FitsSigned w8) (sym (to_z-of_z w32 r fits ∙ c.low_byte.ensures.is)) (SFits-int_wrap w8 _))
