use Rattle.std.proofs.Common.{arith}
use Rattle.std.proofs.lemmas.Int.{ints}
use Rattle.cjc_range.proofs.Spans.{bits_up, bits_half}
use Rattle.cjc_range.proofs.Bits.{word_fits}
use Rattle.cjc_range.proofs.Order.{low_held, high_held}
use Rattle.cjc_range.proofs.Interval.negative_shifted.Goals as goal

pub between-requires-clause-order : goal.between-requires-clause-order
between-requires-clause-order c =
    let s = c.args.self in
    let word = c.low_bits.ensures.word in
    let e = bits_up s.low s.high c.args.shift (word_fits s s.low word (low_held s word)) (word_fits s s.high word
    (high_held s word)) word.ordered c.requires.negative in
    let low = rw c.low_bits.ensures.value at c.from.ensures in
    let high = rw c.high_bits.ensures at c.from-2.ensures in
    omega (arith, ints, e, low, high)

pub between-requires-clause-high : goal.between-requires-clause-high
between-requires-clause-high c =
    let s = c.args.self in
    let word = c.low_bits.ensures.word in
    let e = bits_half s.high c.args.shift (word_fits s s.high word (high_held s word)) c.requires.some in
    let high = rw c.high_bits.ensures at c.from-2.ensures in
    omega (arith, ints, e, high)
