use Rattle.cjc_bytes.proofs.TextLaws.{lines_are_cut, cut_are_lines}
use Rattle.cjc_bytes.proofs.WordLaws.{words_are, words_parted}
use Rattle.cjc_bytes.proofs.text.lines_and_words.Goals as goal

pub returns-clause-lines : goal.returns-clause-lines
returns-clause-lines c = λ at ls bytes. lines_are_cut at ls bytes

pub returns-clause-cut : goal.returns-clause-cut
returns-clause-cut c = λ at bytes. cut_are_lines at bytes

pub returns-clause-words : goal.returns-clause-words
returns-clause-words c = λ ws line. words_are ws line

pub returns-clause-parted : goal.returns-clause-parted
returns-clause-parted c = λ ws line. words_parted ws line
