use Rattle.cjc_script_text.proofs.Loops.{things_end}
use Rattle.cjc_script_text.proofs.printing.put_heap.Goals as goal

pub returns : goal.returns
returns c = things_end c.loop-number.out c.args.heap.now c.loop-number.number _ c.loop-number-test.false
    c.loop-number.invariant
