use Rattle.cjc_types.proofs.Indexing.{above_more, above_all}
use Rattle.cjc_types.proofs.index.end.Goals as goal

pub loop-insn-preserved : goal.loop-insn-preserved
loop-insn-preserved c = record {
  above = above_more c.args.insns.now c.loop-insn.insn-index c.insn-item.result c.loop-insn.end c.raised-end.result c.loop-insn-test.true c.insn-item.is c.loop-insn.invariant.above c.raised-end.ensures.old c.raised-end.ensures.new;
  small = c.raised-end.ensures.small c.loop-insn.invariant.small;
}

pub returns : goal.returns
returns c = above_all c.args.insns.now c.loop-insn.insn-index c.loop-insn.end c.loop-insn-test.false c.loop-insn.invariant.above
