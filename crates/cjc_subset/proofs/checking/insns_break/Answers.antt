use Rattle.std.specs.Prelude.{option_map}
use Rattle.cjc_code.specs.declared.insn.JInsn.{JInsn}
use Rattle.cjc_bytes.specs.Told.{break_of}
use Rattle.cjc_subset.specs.Checks.{insn_breaks}
use Rattle.cjc_bytes.proofs.Firsts.{each_none, each_more, each_all}
use Rattle.cjc_subset.proofs.checking.insns_break.Goals as goal

pub loop-insn-init : goal.loop-insn-init
loop-insn-init c = λ f e. each_none (λ i (x : JInsn). insn_breaks c.args.world.now c.args.settings.now f
    c.args.class.now c.args.place c.args.method.now x) c.args.insns.now

pub loop-insn-preserved : goal.loop-insn-preserved
loop-insn-preserved c = λ f e. each_more (λ i (x : JInsn). insn_breaks c.args.world.now c.args.settings.now f
    c.args.class.now c.args.place c.args.method.now x) c.loop-insn.insn-index c.args.insns.now c.insn-item.result
    (option_map break_of c.first-least.result) c.loop-insn-test.true c.insn-item.is
    (c.first-least.ensures _ _ (c.loop-insn.invariant f e) (c.insn_break.ensures f c.args.class.now c.args.place
    c.args.method.now (c.method_spot-spot.ensures f e)))

pub returns : goal.returns
returns c = λ f e. each_all (λ i (x : JInsn). insn_breaks c.args.world.now c.args.settings.now f c.args.class.now
    c.args.place c.args.method.now x) c.loop-insn.insn-index c.args.insns.now (option_map break_of c.loop-insn.least)
    c.loop-insn-test.false (c.loop-insn.invariant f e)
