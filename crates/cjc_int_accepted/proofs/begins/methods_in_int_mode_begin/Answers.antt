use Rattle.cjc_int_accepted.proofs.BeginsLaws.{begin_behind, method_begins, method_laid, shapes_named}
use Rattle.cjc_int_accepted.proofs.begins.methods_in_int_mode_begin.Goals as goal

pub returns-clause-shapes : goal.returns-clause-shapes
returns-clause-shapes c = shapes_named

pub returns-clause-handlers : goal.returns-clause-handlers
returns-clause-handlers c = begin_behind

pub returns-clause-begins : goal.returns-clause-begins
returns-clause-begins c = method_begins

pub returns-clause-laid : goal.returns-clause-laid
returns-clause-laid c = method_laid
