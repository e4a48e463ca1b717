use Rattle.std.proofs.Common.{arith}
use Rattle.std.proofs.lemmas.Int.{ints}
use Rattle.cjc_range.proofs.Spans.{ones_half}
use Rattle.cjc_range.proofs.up_to_shifted.Goals as goal

pub between-requires-clause-high : goal.between-requires-clause-high
between-requires-clause-high c = let e = ones_half c.args.shift c.requires.some in omega (arith, ints, e)
