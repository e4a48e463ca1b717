use Rattle.cjc_int_accepted.proofs.SelectionLaws.{laid_catches, laid_steps}
use Rattle.cjc_int_accepted.proofs.selection.laid_int_code_is_selected.Goals as goal

pub returns-clause-steps : goal.returns-clause-steps
returns-clause-steps c = laid_steps

pub returns-clause-catches : goal.returns-clause-catches
returns-clause-catches c = laid_catches
