use Rattle.cjc_shrink.proofs.Tosses.{throw_turns}
use Rattle.cjc_shrink.proofs.throws_make_turns.Goals as goal

pub returns : goal.returns
returns c = throw_turns
