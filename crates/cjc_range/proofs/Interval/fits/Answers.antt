use Rattle.std.proofs.Common.{arith}
use Rattle.std.proofs.lemmas.Int.{ints}
use Rattle.cjc_range.proofs.Interval.fits.Goals as goal

pub returns-then-low-self-clause-holds : goal.returns-then-low-self-clause-holds
returns-then-low-self-clause-holds c =
    let order = c.self.invariant in
    let above = c.if-low-self.true in
    rw (← c.self.view_is) (
      λ t x h. (let a = h.above in let b = h.below in record {
        above = omega (arith, ints, a, above);
        below = grind (arith, ints, t, b);
      }),
      λ each. let m = (each c.self.inside.high (record { above = order; below = omega (arith, ints) })).below
          in grind (arith, ints, m),
    )
