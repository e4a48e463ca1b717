use Rattle.std.proofs.Common.{sym, ◌∙◌}
use Rattle.std.specs.Prelude.{None}
use Rattle.cjc_code.specs.declared.insn.JInsn.{JInsn}
use Rattle.cjc_bytes.proofs.Firsts.{each_none, each_more, each_all}
use Rattle.cjc_subset.specs.Names.{insn_breaks}
use Rattle.cjc_subset.proofs.Clean.{clean_by_name, nothing_more}
use Rattle.cjc_subset.proofs.naming.are_clean.Goals as goal

pub loop-insn-init : goal.loop-insn-init
loop-insn-init c = λ f i. each_none (λ _ (x : JInsn). insn_breaks c.args.world.now f c.args.class.now i
    c.args.method.now x) c.args.insns.now

pub loop-insn-preserved : goal.loop-insn-preserved
loop-insn-preserved c = λ f i. each_more (λ _ (x : JInsn). insn_breaks c.args.world.now f c.args.class.now i
    c.args.method.now x) c.loop-insn.insn-index c.args.insns.now c.insn-item.result None c.loop-insn-test.true
    c.insn-item.is (nothing_more _ _ (c.loop-insn.invariant f i) (clean_by_name c.args.world.now f c.args.class.now i
    c.args.method.now c.insn-item.result (sym
    c.breaks_any.ensures ∙ c.if-breaks_any.false)))

pub returns : goal.returns
returns c = λ t f i. each_all (λ _ (x : JInsn). insn_breaks c.args.world.now f c.args.class.now i c.args.method.now x)
    c.loop-insn.insn-index c.args.insns.now None c.loop-insn-test.false (c.loop-insn.invariant f i)
