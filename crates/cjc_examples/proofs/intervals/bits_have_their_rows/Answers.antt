use Rattle.std.proofs.Common.{refl}
use Rattle.cjc_code.specs.Range.Rows.{least_bits}
use Rattle.cjc_examples.proofs.intervals.bits_have_their_rows.Goals as goal

pub returns-clause-conjunctions : goal.returns-clause-conjunctions
unfolding least_bits
returns-clause-conjunctions c = refl

pub returns-clause-disjunctions : goal.returns-clause-disjunctions
unfolding least_bits
returns-clause-disjunctions c = refl

pub returns-clause-exclusive : goal.returns-clause-exclusive
unfolding least_bits
returns-clause-exclusive c = refl
