use Rattle.std.proofs.Common.{FitsSigned, rules}
use Rattle.std.specs.Int.{w32}
use Rattle.cjc_range.specs.Span.{IsWord}
use Rattle.cjc_range.proofs.Spans.{word_of, ushr_holds}
use Rattle.cjc_range.proofs.Bits.{word_fits}
use Rattle.cjc_range.proofs.Interval.ushr.Goals as goal

pub returns-then-other-clause-row : goal.returns-then-other-clause-row
returns-then-other-clause-row c = search rules

pub returns-then-other-clause-holds : goal.returns-then-other-clause-holds
returns-then-other-clause-holds c x y h k =
    let f : FitsSigned w32 c.self.inside.low = search rules in
    let g : FitsSigned w32 c.self.inside.high = search rules in
    let word : IsWord c.args.self = word_of c.args.self _ _ c.self.view_is f g c.self.invariant in
    rw (returns-then-other-clause-row c) (ushr_holds c.args.self c.args.other x y (word_fits c.args.self x word h) h k)

pub returns-else-negative-clause-row : goal.returns-else-negative-clause-row
returns-else-negative-clause-row c = search rules

pub returns-else-negative-clause-holds : goal.returns-else-negative-clause-holds
returns-else-negative-clause-holds c x y h k =
    let f : FitsSigned w32 c.self.inside.low = search rules in
    let g : FitsSigned w32 c.self.inside.high = search rules in
    let word : IsWord c.args.self = word_of c.args.self _ _ c.self.view_is f g c.self.invariant in
    rw (returns-else-negative-clause-row c) (ushr_holds c.args.self c.args.other x y (word_fits c.args.self x word h) h
    k)
