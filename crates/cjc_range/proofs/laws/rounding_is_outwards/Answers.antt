use Rattle.cjc_range.proofs.Rounding.{round_is, round_again}
use Rattle.cjc_range.proofs.laws.rounding_is_outwards.Goals as goal

pub returns-clause-nearest : goal.returns-clause-nearest
returns-clause-nearest c = round_is

pub returns-clause-again : goal.returns-clause-again
returns-clause-again c = round_again
