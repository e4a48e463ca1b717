use Rattle.cjc_code.proofs.OneCut.{is_cut, is_only_cut}
use Rattle.cjc_code.proofs.laws.cuts.Goals as goal

pub returns-clause-cut : goal.returns-clause-cut
returns-clause-cut c = is_cut

pub returns-clause-only : goal.returns-clause-only
returns-clause-only c = is_only_cut
