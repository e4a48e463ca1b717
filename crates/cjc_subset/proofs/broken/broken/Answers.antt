use Rattle.cjc_subset.specs.Breaks.{spot_of}
use Rattle.cjc_subset.proofs.Firsts.{at_true}
use Rattle.cjc_subset.proofs.broken.broken.Goals as goal

pub returns-then-is_broken : goal.returns-then-is_broken
returns-then-is_broken c = at_true c.args.is_broken (spot_of c.args.spot) c.args.rule c.if-is_broken.true
