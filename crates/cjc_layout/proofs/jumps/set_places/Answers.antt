use Rattle.std.proofs.Common.{◌≢◌, ◌+◌, ◌<◌, arith, length, get_or-set_other, get_or-set_same, below_more}
use Rattle.cjc_layout.proofs.Passes.{sum_next, sum_grows}
use Rattle.cjc_layout.proofs.jumps.set_places.Goals as goal

pub overflow_add-at : goal.overflow_add-at
overflow_add-at c =
    let n = sum_next c.args.sizes.now c.args.wide.now c.loop-k.k c.requires.wide c.loop-k-test.true in
    let g = sum_grows c.args.sizes.now c.args.wide.now (c.loop-k.k + 1) (length c.args.sizes.now) (omega (
      arith,
      c.loop-k-test.true,
    )) in
    omega (arith, n, g, c.requires.short, c.bit.ensures)

pub overflow_add-at-in-loop-k : goal.overflow_add-at-in-loop-k
overflow_add-at-in-loop-k c =
    let n = sum_next c.args.sizes.now c.args.wide.now c.loop-k.k c.requires.wide c.loop-k-test.true in
    let g = sum_grows c.args.sizes.now c.args.wide.now (c.loop-k.k + 1) (length c.args.sizes.now) (omega (
      arith,
      c.loop-k-test.true,
    )) in
    omega (arith, n, g, c.requires.short, c.bit.ensures, c.loop-k.invariant.at)

pub loop-k-preserved : goal.loop-k-preserved
loop-k-preserved c =
    let n = sum_next c.args.sizes.now c.args.wide.now c.loop-k.k c.requires.wide c.loop-k-test.true in
    let lt : c.loop-k.k < length c.loop-k.places = omega (
      arith,
      c.loop-k.auto.places,
      c.requires.places,
      c.loop-k-test.true,
    ) in
    record {
      each = below_more _ _
          (λ j h. let ne : j ≢ c.loop-k.k = omega arith in rw get_or-set_other (c.loop-k.invariant.each j h))
          (rw get_or-set_same c.loop-k.invariant.at);
      at = omega (arith, n, c.loop-k.invariant.at, c.bit.ensures);
    }
