use Rattle.cjc_convert.proofs.Consistency.{form_is_consistent}
use Rattle.cjc_convert.proofs.consistent.first_form_is_consistent.Goals as goal

pub returns : goal.returns
returns c = form_is_consistent
