use Rattle.cjc_int_accepted.proofs.SelectionLaws.{laid_frame, laid_stack, pairs_fit}
use Rattle.cjc_int_accepted.proofs.selection.laid_int_code_has_its_words.Goals as goal

pub returns-clause-pairs : goal.returns-clause-pairs
returns-clause-pairs c = pairs_fit

pub returns-clause-stack : goal.returns-clause-stack
returns-clause-stack c = laid_stack

pub returns-clause-frame : goal.returns-clause-frame
returns-clause-frame c = laid_frame
