use Rattle.cjc_int_components.proofs.Words.{methods_are, words_are}
use Rattle.cjc_int_components.proofs.packages.methods_by_modes_take_their_words.Goals as goal

pub returns-clause-order : goal.returns-clause-order
returns-clause-order c = methods_are

pub returns-clause-words : goal.returns-clause-words
returns-clause-words c = words_are
