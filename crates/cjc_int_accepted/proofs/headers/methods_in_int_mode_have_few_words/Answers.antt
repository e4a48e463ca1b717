use Rattle.cjc_int_accepted.proofs.HeadersLaws.{stack_few, words_few}
use Rattle.cjc_int_accepted.proofs.headers.methods_in_int_mode_have_few_words.Goals as goal

pub returns-clause-words : goal.returns-clause-words
returns-clause-words c = words_few

pub returns-clause-stack : goal.returns-clause-stack
returns-clause-stack c = stack_few
