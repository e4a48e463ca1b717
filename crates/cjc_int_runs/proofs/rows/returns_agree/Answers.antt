use Rattle.cjc_int_runs.proofs.Returns.{int_returned, short_returned, reference_returned, nothing_returned}
use Rattle.cjc_int_runs.proofs.rows.returns_agree.Goals as goal

pub returns-clause-int : goal.returns-clause-int
returns-clause-int c = int_returned

pub returns-clause-short : goal.returns-clause-short
returns-clause-short c = short_returned

pub returns-clause-reference : goal.returns-clause-reference
returns-clause-reference c = reference_returned

pub returns-clause-nothing : goal.returns-clause-nothing
returns-clause-nothing c = nothing_returned
