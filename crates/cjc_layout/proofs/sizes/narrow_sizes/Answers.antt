use Rattle.std.proofs.Common.{◌∙◌, ap, arith, map, false}
use Rattle.cjc_layout.specs.Sizes.{insn_size}
use Rattle.cjc_layout.proofs.Passes.{size_small, take_next}
use Rattle.cjc_ncode.proofs.BytesGets.{take_past, slice_get_at}
use Rattle.cjc_layout.proofs.sizes.narrow_sizes.Goals as goal

pub narrow_size-size-requires : goal.narrow_size-size-requires
narrow_size-size-requires c =
    let s = size_small c.args.insns.now c.loop-k.k c.index-insns-k.result (slice_get_at c.args.insns.now c.loop-k.k
    c.index-insns-k.result c.loop-k-test.true c.index-insns-k.is) in
    omega (arith, s, c.requires)

pub overflow_cast-size : goal.overflow_cast-size
overflow_cast-size c =
    let s = size_small c.args.insns.now c.loop-k.k c.index-insns-k.result (slice_get_at c.args.insns.now c.loop-k.k
    c.index-insns-k.result c.loop-k-test.true c.index-insns-k.is) in
    omega (arith, s, c.requires, c.narrow_size-size.ensures)

pub loop-k-preserved : goal.loop-k-preserved
loop-k-preserved c =
    let n = take_next (insn_size false) c.args.insns.now c.loop-k.k c.index-insns-k.result
    (slice_get_at c.args.insns.now
    c.loop-k.k c.index-insns-k.result c.loop-k-test.true c.index-insns-k.is) in
    let p = c.in_ok-push.ensures.items in
    let z = c.narrow_size-size.ensures in
    let inv = c.loop-k.invariant in cc

pub returns : goal.returns
returns c = c.loop-k.invariant ∙ ap (map (insn_size false)) (take_past c.args.insns.now c.loop-k.k (omega (
  arith,
  c.loop-k-test.false,
)))
