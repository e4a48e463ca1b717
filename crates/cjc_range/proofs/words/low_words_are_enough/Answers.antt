use Rattle.cjc_range.proofs.WordsLaws.Words as w
use Rattle.cjc_range.proofs.words.low_words_are_enough.Goals as goal

pub returns-clause-cut : goal.returns-clause-cut
returns-clause-cut c = w.low_word-wide

pub returns-clause-byte : goal.returns-clause-byte
returns-clause-byte c = w.low_byte-low_word

pub returns-clause-add : goal.returns-clause-add
returns-clause-add c = w.low_word-add

pub returns-clause-sub : goal.returns-clause-sub
returns-clause-sub c = w.low_word-sub

pub returns-clause-mul : goal.returns-clause-mul
returns-clause-mul c = w.low_word-mul

pub returns-clause-neg : goal.returns-clause-neg
returns-clause-neg c = w.low_word-neg

pub returns-clause-shl : goal.returns-clause-shl
returns-clause-shl c = w.low_word-shl

pub returns-clause-and : goal.returns-clause-and
returns-clause-and c = w.low_word-and

pub returns-clause-or : goal.returns-clause-or
returns-clause-or c = w.low_word-or

pub returns-clause-xor : goal.returns-clause-xor
returns-clause-xor c = w.low_word-xor
