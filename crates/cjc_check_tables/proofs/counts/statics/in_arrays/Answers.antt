use Rattle.std.proofs.Common.{◌≡◌, ◌+◌, ℕ, ap, arith, length, drop, List}
use Rattle.std.specs.Prelude.{sum_by}
use Rattle.cjc_check_rules.specs.Complete.{array_size}
use Rattle.cjc_check_rules.specs.Statics.{in_array}
use Rattle.cjc_check_rules.proofs.Firsts.{along_more, along_all, sum_step}
use Rattle.cjc_check_tables.proofs.counts.statics.in_arrays.Goals as goal

pub loop-array-preserved : goal.loop-array-preserved
loop-array-preserved c =
    let xs = c.args.arrays.now in
    let i = c.loop-array.array-index in
    let x = c.array-item.result in
    let n : length c.items.result.now ≡ length x.values = ap (λ (bytes : List ℕ). length bytes) c.items.ensures in
    let s : sum_by array_size (drop i xs) ≡ array_size x + sum_by array_size (drop (i + 1) xs) =
    sum_step array_size i x xs c.loop-array-test.true c.array-item.is in
    let h = c.loop-array.invariant.0 in (
      omega (arith, s, n, h),
      rw c.earlier-least.ensures (along_more array_size in_array c.loop-array.at _ i x xs
          c.loop-array.least c.in_array.result _ c.loop-array-test.true c.array-item.is (omega (arith, n))
          c.in_array.ensures c.loop-array.invariant.1),
    )

pub returns : goal.returns
returns c = along_all array_size in_array c.loop-array.at c.loop-array.array-index c.args.arrays.now c.loop-array.least
    _ c.loop-array-test.false c.loop-array.invariant.1
