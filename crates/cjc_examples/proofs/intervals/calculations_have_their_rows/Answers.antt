use Rattle.std.proofs.Common.{refl}
use Rattle.cjc_examples.proofs.intervals.calculations_have_their_rows.Goals as goal

pub returns-clause-sums : goal.returns-clause-sums
returns-clause-sums c = refl

pub returns-clause-differences : goal.returns-clause-differences
returns-clause-differences c = refl

pub returns-clause-products : goal.returns-clause-products
returns-clause-products c = refl

pub returns-clause-quotients : goal.returns-clause-quotients
returns-clause-quotients c = refl

pub returns-clause-rests : goal.returns-clause-rests
returns-clause-rests c = refl

pub returns-clause-opposites : goal.returns-clause-opposites
returns-clause-opposites c = refl
