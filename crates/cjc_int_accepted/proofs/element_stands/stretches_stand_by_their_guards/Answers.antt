use Rattle.cjc_int_accepted.proofs.ElementsStandLaws.{stands_by_guard}
use Rattle.cjc_int_accepted.proofs.element_stands.stretches_stand_by_their_guards.Goals as goal

pub returns : goal.returns
returns c = stands_by_guard
