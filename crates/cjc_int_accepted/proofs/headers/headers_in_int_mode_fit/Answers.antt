use Rattle.cjc_int_accepted.proofs.HeadersLaws.{header_fits, is_entered, locals_read, stack_read, words_read}
use Rattle.cjc_int_accepted.proofs.headers.headers_in_int_mode_fit.Goals as goal

pub returns-clause-fits : goal.returns-clause-fits
returns-clause-fits c = header_fits

pub returns-clause-stack : goal.returns-clause-stack
returns-clause-stack c = stack_read

pub returns-clause-locals : goal.returns-clause-locals
returns-clause-locals c = locals_read

pub returns-clause-words : goal.returns-clause-words
returns-clause-words c = words_read

pub returns-clause-entered : goal.returns-clause-entered
returns-clause-entered c = is_entered
