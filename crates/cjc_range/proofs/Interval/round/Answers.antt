use Rattle.std.proofs.Common.{FitsSigned, rules, arith}
use Rattle.std.specs.Int.{w32}
use Rattle.std.proofs.lemmas.Int.{ints, to_z-of_z}
use Rattle.cjc_range.specs.Span.{IsWord}
use Rattle.cjc_range.proofs.Spans.{word_of}
use Rattle.cjc_range.proofs.Order.{held_wider}
use Rattle.cjc_range.proofs.Rounding.{round_ordered, round_within}
use Rattle.cjc_range.proofs.Interval.round.Goals as goal

pub invariant_of-result : goal.invariant_of-result
invariant_of-result c =
    let f : FitsSigned w32 c.self.inside.low = search rules in
    let g : FitsSigned w32 c.self.inside.high = search rules in
    let word : IsWord c.args.self = word_of c.args.self _ _ c.self.view_is f g c.self.invariant in
    let low = simp to_z-of_z at c.landmark_below.ensures in
    let high = simp to_z-of_z at c.landmark_above.ensures in
    let order = rw (← c.self.view_is) at (round_ordered c.args.self word) in
    omega (arith, ints, low, high, order)

pub returns-clause-row : goal.returns-clause-row
returns-clause-row c = search rules

pub returns-clause-holds : goal.returns-clause-holds
returns-clause-holds c x h =
    let f : FitsSigned w32 c.self.inside.low = search rules in
    let g : FitsSigned w32 c.self.inside.high = search rules in
    let word : IsWord c.args.self = word_of c.args.self _ _ c.self.view_is f g c.self.invariant in
    rw (returns-clause-row c) (held_wider c.args.self _ x (round_within c.args.self word) h)
