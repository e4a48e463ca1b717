use Rattle.cjc_layout.proofs.Lowered.{has_form, size_same, before_same, handlers_placed}
use Rattle.cjc_layout.proofs.layouts_are_laid_out.Goals as goal

pub returns-clause-forms : goal.returns-clause-forms
returns-clause-forms c = has_form

pub returns-clause-sizes : goal.returns-clause-sizes
returns-clause-sizes c = size_same

pub returns-clause-offsets : goal.returns-clause-offsets
returns-clause-offsets c = before_same

pub returns-clause-handlers : goal.returns-clause-handlers
returns-clause-handlers c = handlers_placed
