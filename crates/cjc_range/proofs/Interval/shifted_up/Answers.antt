use Rattle.std.proofs.Common.{FitsSigned, ◌≡◌, ◌^◌, rules, arith}
use Rattle.std.specs.Int.{w32}
use Rattle.std.proofs.lemmas.Int.{ints}
use Rattle.cjc_range.proofs.Spans.{shl_exact, mul_up}
use Rattle.cjc_range.proofs.Interval.shifted_up.Goals as goal

pub clipped-requires : goal.clipped-requires
clipped-requires c =
    let f : FitsSigned w32 c.self.inside.low = search rules in
    let g : FitsSigned w32 c.self.inside.high = search rules in
    let low : c.from.result ≡ c.self.inside.low = omega (arith, ints) in
    let high : c.from-2.result ≡ c.self.inside.high = omega (arith, ints) in
    rw (
      low,
      high,
      shl_exact c.self.inside.low c.args.shift f c.requires,
      shl_exact c.self.inside.high c.args.shift g
          c.requires,
    )
    (mul_up c.self.inside.low c.self.inside.high (2 ^ c.args.shift) c.self.invariant)

pub returns : goal.returns
returns c =
    let f : FitsSigned w32 c.self.inside.low = search rules in
    let g : FitsSigned w32 c.self.inside.high = search rules in
    let low : c.from.result ≡ c.self.inside.low = omega (arith, ints) in
    let high : c.from-2.result ≡ c.self.inside.high = omega (arith, ints) in
    rw (← c.self.view_is)
    (rw (
      low,
      high,
      shl_exact c.self.inside.low c.args.shift f c.requires,
      shl_exact c.self.inside.high c.args.shift g
          c.requires,
    ) at c.clipped.ensures)
