use Rattle.std.specs.Prelude.{option_map}
use Rattle.cjc_bytes.specs.Told.{break_of}
use Rattle.cjc_bytes.proofs.Firsts.{each_none, each_more, each_all}
use Rattle.cjc_bytes.proofs.Gets.{same_item}
use Rattle.cjc_judge.specs.declared.reading.UnsupportedInsn.{UnsupportedInsn}
use Rattle.cjc_judge.specs.Rules.{unsupported_break, unsupported_breaks}
use Rattle.cjc_judge.proofs.judging.unsupported_insns_break.Goals as goal

pub loop-unsupported-init : goal.loop-unsupported-init
loop-unsupported-init c = each_none (λ _ (x : UnsupportedInsn). unsupported_break c.args.world.now x)
    c.args.unsupported_insns.now

pub loop-unsupported-preserved : goal.loop-unsupported-preserved
loop-unsupported-preserved c =
    each_more (λ _ (x : UnsupportedInsn). unsupported_break c.args.world.now x) c.loop-unsupported.unsupported-index
    c.args.unsupported_insns.now _ (option_map break_of c.first-least.result) c.loop-unsupported-test.true
    (same_item c.args.unsupported_insns.now c.loop-unsupported.unsupported-index _ c.loop-unsupported-test.true)
    (c.first-least.ensures _ _ c.loop-unsupported.invariant c.unsupported_break.ensures)

pub returns : goal.returns
unfolding unsupported_breaks
returns c = each_all (λ _ (x : UnsupportedInsn). unsupported_break c.args.world.now x)
    c.loop-unsupported.unsupported-index c.args.unsupported_insns.now (option_map break_of c.loop-unsupported.least)
    c.loop-unsupported-test.false c.loop-unsupported.invariant
