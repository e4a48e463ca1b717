use Rattle.std.proofs.Common.{FitsSigned, rules}
use Rattle.std.specs.Int.{w32}
use Rattle.cjc_range.specs.Span.{IsWord}
use Rattle.cjc_range.proofs.Spans.{word_of}
use Rattle.cjc_range.proofs.Bits.{and_holds}
use Rattle.cjc_range.proofs.Interval.and.Goals as goal

pub returns-then-other-ge0-clause-row : goal.returns-then-other-ge0-clause-row
returns-then-other-ge0-clause-row c = search rules

pub returns-then-other-ge0-clause-holds : goal.returns-then-other-ge0-clause-holds
returns-then-other-ge0-clause-holds c x y h k =
    let a : FitsSigned w32 c.self.inside.low = search rules in
    let b : FitsSigned w32 c.self.inside.high = search rules in
    let d : FitsSigned w32 c.other.inside.low = search rules in
    let e : FitsSigned w32 c.other.inside.high = search rules in
    let left : IsWord c.args.self = word_of c.args.self _ _ c.self.view_is a b c.self.invariant in
    let right : IsWord c.args.other = word_of c.args.other _ _ c.other.view_is d e c.other.invariant in
    and_holds c.args.self c.args.other _ x y left right (returns-then-other-ge0-clause-row c) h k

pub returns-else-other-ge0-clause-row : goal.returns-else-other-ge0-clause-row
returns-else-other-ge0-clause-row c = search rules

pub returns-else-other-ge0-clause-holds : goal.returns-else-other-ge0-clause-holds
returns-else-other-ge0-clause-holds c x y h k =
    let a : FitsSigned w32 c.self.inside.low = search rules in
    let b : FitsSigned w32 c.self.inside.high = search rules in
    let d : FitsSigned w32 c.other.inside.low = search rules in
    let e : FitsSigned w32 c.other.inside.high = search rules in
    let left : IsWord c.args.self = word_of c.args.self _ _ c.self.view_is a b c.self.invariant in
    let right : IsWord c.args.other = word_of c.args.other _ _ c.other.view_is d e c.other.invariant in
    and_holds c.args.self c.args.other _ x y left right (returns-else-other-ge0-clause-row c) h k

pub returns-then-other-ge0-2-clause-row : goal.returns-then-other-ge0-2-clause-row
returns-then-other-ge0-2-clause-row c = search rules

pub returns-then-other-ge0-2-clause-holds : goal.returns-then-other-ge0-2-clause-holds
returns-then-other-ge0-2-clause-holds c x y h k =
    let a : FitsSigned w32 c.self.inside.low = search rules in
    let b : FitsSigned w32 c.self.inside.high = search rules in
    let d : FitsSigned w32 c.other-else-self-ge0.inside.low = search rules in
    let e : FitsSigned w32 c.other-else-self-ge0.inside.high = search rules in
    let left : IsWord c.args.self = word_of c.args.self _ _ c.self.view_is a b c.self.invariant in
    let right : IsWord c.args.other = word_of c.args.other _ _ c.other-else-self-ge0.view_is d e
    c.other-else-self-ge0.invariant in
    and_holds c.args.self c.args.other _ x y left right (returns-then-other-ge0-2-clause-row c) h k

pub returns-else-other-ge0-2-clause-row : goal.returns-else-other-ge0-2-clause-row
returns-else-other-ge0-2-clause-row c = search rules

pub returns-else-other-ge0-2-clause-holds : goal.returns-else-other-ge0-2-clause-holds
returns-else-other-ge0-2-clause-holds c x y h k =
    let is = c.of_bits.ensures in
    and_holds c.args.self c.args.other _ x y is.left is.right (returns-else-other-ge0-2-clause-row c) h k
