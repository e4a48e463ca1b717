use Rattle.std.proofs.Common.{rules}
use Rattle.std.specs.Int.{int_wrap}
use Rattle.cjc_narrow.proofs.written.number.low_word.Goals as goal

pub returns : goal.returns
unfolding int_wrap
returns c = search rules
