use Rattle.cjc_int_components.proofs.Room.{limits_as_before, words_as_before}
use Rattle.cjc_int_components.proofs.limits.limits_without_int_mode_are_as_before.Goals as goal

pub returns-clause-words : goal.returns-clause-words
returns-clause-words c = words_as_before

pub returns-clause-limits : goal.returns-clause-limits
returns-clause-limits c = limits_as_before
