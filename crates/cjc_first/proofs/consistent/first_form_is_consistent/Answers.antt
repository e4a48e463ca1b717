use Rattle.cjc_first.proofs.Consistency.{form_is_consistent}
use Rattle.cjc_first.proofs.consistent.first_form_is_consistent.Goals as goal

pub returns : goal.returns
returns c = form_is_consistent
