use Rattle.cjc_int_accepted.proofs.FrontLaws.{prologue_acts, prologue_begins}
use Rattle.cjc_int_accepted.proofs.front.prologues_begin_methods_in_int_mode.Goals as goal

pub returns-clause-acts : goal.returns-clause-acts
returns-clause-acts c = prologue_acts

pub returns-clause-begins : goal.returns-clause-begins
returns-clause-begins c = prologue_begins
