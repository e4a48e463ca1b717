use Rattle.cjc_card_step.proofs.effects.types.leave.Goals as goal

pub returns-in-Some : goal.returns-in-Some
returns-in-Some c = rw c.in-Some.is c.leave_with.ensures
