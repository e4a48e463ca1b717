use Rattle.std.proofs.Common.{sym, subst}
use Rattle.std.specs.Prelude.{option_map}
use Rattle.cjc_code.specs.declared.method_code.MethodCode.{MethodCode}
use Rattle.cjc_subset.specs.Breaks.{break_of}
use Rattle.cjc_types.specs.Tables.{IsOfPackage}
use Rattle.cjc_convert.proofs.Typed.{more_below, all_below}
use Rattle.cjc_convert.proofs.judging.types_break.Goals as goal

pub type_break-requires : goal.type_break-requires
type_break-requires c = subst (λ (x : MethodCode). IsOfPackage c.args.world.now x) (sym c.code-item.is) (c.requires c.loop-code.code-index c.code-item.result c.loop-code-test.true)

pub loop-code-preserved : goal.loop-code-preserved
loop-code-preserved c =
    more_below c.args.world.now c.args.codes.now c.loop-code.code-index c.code-item.result (option_map break_of c.loop-code.least) (option_map break_of c.in_ok-type_break.field-0) (option_map break_of c.first-least.result)
    c.loop-code-test.true c.code-item.is c.first-least.ensures c.loop-code.invariant c.in_ok-type_break.ensures

pub returns : goal.returns
returns c = all_below c.args.world.now c.args.codes.now c.loop-code.code-index (option_map break_of c.loop-code.least) c.loop-code-test.false c.loop-code.invariant
