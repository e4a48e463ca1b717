use Rattle.std.proofs.Common.{rules}
use Rattle.std.specs.Int.{int_wrap}
use Rattle.cjc_written.proofs.number.low_word.Goals as goal

pub returns : goal.returns
unfolding int_wrap
returns c = search rules
