use Rattle.cjc_shape.proofs.WholeLaws.Modes.{own_has, own_tables, short_or_not}
use Rattle.cjc_shape.proofs.WholeLaws.Short.{none_in_int_mode, to_modes, to_short, words_as_before}
use Rattle.cjc_shape.proofs.whole.short.packages_in_short_mode_are_as_before.Goals as goal

pub returns-clause-by_modes : goal.returns-clause-by_modes
returns-clause-by_modes c = λ list files judged is. to_modes list files judged is c.least_ranges_exist.ensures

pub returns-clause-short : goal.returns-clause-short
returns-clause-short c = to_short

pub returns-clause-words : goal.returns-clause-words
returns-clause-words c = words_as_before

pub returns-clause-modes : goal.returns-clause-modes
returns-clause-modes c = none_in_int_mode

pub returns-clause-decided : goal.returns-clause-decided
returns-clause-decided c = λ list files judged is. (let exist = c.least_ranges_exist.ensures in
    short_or_not list files judged is (own_tables list files judged is exist) (own_has list files judged is exist))
