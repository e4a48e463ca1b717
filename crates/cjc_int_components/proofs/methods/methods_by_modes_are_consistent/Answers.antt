use Rattle.cjc_int_components.proofs.Made.{all_inside, all_kinds, all_lie, all_written}
use Rattle.cjc_int_components.proofs.methods.methods_by_modes_are_consistent.Goals as goal

pub returns-clause-written : goal.returns-clause-written
returns-clause-written c = all_written

pub returns-clause-inside : goal.returns-clause-inside
returns-clause-inside c = all_inside

pub returns-clause-handlers : goal.returns-clause-handlers
returns-clause-handlers c = all_lie

pub returns-clause-kinds : goal.returns-clause-kinds
returns-clause-kinds c = all_kinds
