use Rattle.cjc_range.proofs.WordsLaws.Words as w
use Rattle.cjc_range.proofs.words.low_words_choose.Goals as goal

pub returns-clause-distance : goal.returns-clause-distance
returns-clause-distance c = w.shift_distance-low_word

pub returns-clause-index : goal.returns-clause-index
returns-clause-index c = w.index-low_word
