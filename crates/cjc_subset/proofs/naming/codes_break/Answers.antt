use Rattle.std.specs.Prelude.{option_map}
use Rattle.cjc_code.specs.declared.method_code.MethodCode.{MethodCode}
use Rattle.cjc_bytes.specs.Told.{break_of}
use Rattle.cjc_subset.specs.Names.{code_breaks, name_breaks}
use Rattle.cjc_bytes.proofs.Firsts.{each_none, each_more, each_all}
use Rattle.cjc_subset.proofs.naming.codes_break.Goals as goal

pub loop-code-init : goal.loop-code-init
loop-code-init c = each_none (λ _ (x : MethodCode). code_breaks c.args.world.now x) c.args.codes.now

pub loop-code-preserved : goal.loop-code-preserved
loop-code-preserved c = each_more (λ _ (x : MethodCode). code_breaks c.args.world.now x) c.loop-code.code-index
    c.args.codes.now c.code-item.result (option_map break_of c.first-least.result) c.loop-code-test.true c.code-item.is
    (c.first-least.ensures _ _ c.loop-code.invariant c.code_break.ensures)

pub returns : goal.returns
unfolding name_breaks
returns c = each_all (λ _ (x : MethodCode). code_breaks c.args.world.now x) c.loop-code.code-index c.args.codes.now
    (option_map break_of c.loop-code.least) c.loop-code-test.false c.loop-code.invariant
