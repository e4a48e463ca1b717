use Rattle.cjc_bytes.specs.Told.{spot_of}
use Rattle.cjc_bytes.proofs.Firsts.{at_true}
use Rattle.cjc_bytes.proofs.breaks.broken.Goals as goal

pub returns-then-is_broken : goal.returns-then-is_broken
returns-then-is_broken c = at_true c.args.is_broken (spot_of c.args.spot) c.args.rule c.if-is_broken.true
