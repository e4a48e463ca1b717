use Rattle.cjc_range.proofs.WordsLaws.Words as w
use Rattle.cjc_range.proofs.words.cuts_fit.Goals as goal

pub returns-clause-word : goal.returns-clause-word
returns-clause-word c = w.low_word_fits

pub returns-clause-wide_word : goal.returns-clause-wide_word
returns-clause-wide_word c = w.wide_fits

pub returns-clause-same : goal.returns-clause-same
returns-clause-same c = w.low_word_fixed

pub returns-clause-wide_same : goal.returns-clause-wide_same
returns-clause-wide_same c = w.wide_fixed
