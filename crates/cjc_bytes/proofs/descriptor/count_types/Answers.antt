use Rattle.std.proofs.Common.{sym, ◌∙◌, arith}
use Rattle.cjc_bytes.proofs.DescriptorTypes.{counts_between, counts_inside, counts_last, counted}
use Rattle.cjc_bytes.proofs.descriptor.count_types.Goals as goal
use Rattle.cjc_bytes.proofs.descriptor.count_types.Goals.{in-Between, in-Inside, in-Last}

pub loop-byte-preserved : goal.loop-byte-preserved
loop-byte-preserved c = elim c.match-role_in_type.branch [
  | in-Between w ↦ rw (w.count-is, w.in_name-is) (record {
    few = omega arith;
    same = counts_between c.args.bytes.now c.loop-byte.byte-index 0 c.loop-byte.count _ c.loop-byte.in_name
        (sym c.role_in_type.ensures ∙ w.in-Between.is) c.loop-byte-test.true c.loop-byte.invariant.same;
  })
  | in-Inside w ↦ rw (w.count-is, w.in_name-is) (record {
    few = omega arith;
    same = counts_inside c.args.bytes.now c.loop-byte.byte-index 0 c.loop-byte.count _ c.loop-byte.in_name
        w.in-Inside.is_open (sym c.role_in_type.ensures ∙ w.in-Inside.is) c.loop-byte-test.true
        c.loop-byte.invariant.same;
  })
  | in-Last w ↦ rw (w.count-is, w.in_name-is) (record {
    few = omega arith;
    same = counts_last c.args.bytes.now c.loop-byte.byte-index 0 c.loop-byte.count _ c.loop-byte.in_name
        (sym c.role_in_type.ensures ∙ w.in-Last.is) c.loop-byte-test.true c.loop-byte.invariant.same;
  })
]

pub returns : goal.returns
returns c = counted c.args.bytes.now c.loop-byte.byte-index c.loop-byte.count _ c.loop-byte.in_name
    c.loop-byte-test.false c.loop-byte.invariant.same
