use Rattle.std.proofs.Common.{FitsSigned, rules}
use Rattle.std.specs.Int.{w32}
use Rattle.cjc_range.proofs.Spans.{shr_up_word}
use Rattle.cjc_range.proofs.Interval.shifted_down.Goals as goal

pub invariant_of-result : goal.invariant_of-result
invariant_of-result c =
    let low : FitsSigned w32 c.self.inside.low = search rules in
    let high : FitsSigned w32 c.self.inside.high = search rules in
    shr_up_word c.self.inside.low c.self.inside.high c.args.shift low high c.self.invariant
