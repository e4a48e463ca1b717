use Rattle.std.proofs.Common.{sym, subst}
use Rattle.std.specs.Prelude.{option_map}
use Rattle.cjc_clinit.specs.Bytecode.declared.method_code.MethodCode.{MethodCode}
use Rattle.cjc_bytes.specs.Told.{break_of}
use Rattle.cjc_bytes.proofs.Options.{mapped_2}
use Rattle.cjc_narrow.specs.Types.Tables.{IsOfPackage}
use Rattle.cjc_judge.specs.Rules.{BreaksType}
use Rattle.cjc_judge.proofs.Folds.{none_below, more_below, all_below}
use Rattle.cjc_judge.proofs.Tables.{joined, more_tables, all_tables}
use Rattle.cjc_judge.proofs.judging.types_break.Goals as goal

pub loop-code-init : goal.loop-code-init
loop-code-init c = (none_below (BreaksType c.args.world.now) c.args.codes.now, c.requires.types)

pub type_break-requires : goal.type_break-requires
type_break-requires c = subst (λ (x : MethodCode). IsOfPackage c.args.world.now x) (sym c.code-item.is)
    (c.requires.codes c.loop-code.code-index c.code-item.result c.loop-code-test.true)

pub loop-code-preserved : goal.loop-code-preserved
loop-code-preserved c = (
  more_below (BreaksType c.args.world.now) c.args.codes.now c.loop-code.code-index c.code-item.result
      (option_map break_of c.loop-code.least) (option_map break_of c.in_ok-broken.broken)
      (option_map break_of c.first-least.result)
      c.loop-code-test.true c.code-item.is c.first-least.ensures c.loop-code.invariant.0 c.in_ok-broken.ensures.first,
  joined break_of _ _ _ _ _ _ _ _ c.first-least.ensures c.loop-code.invariant.0 c.in_ok-broken.ensures.first
      (more_tables c.args.world.now c.args.codes.now c.loop-code.code-index c.code-item.result _ _ c.loop-code-test.true
      c.code-item.is)
      c.loop-code.invariant.1 c.in_ok-broken.ensures.types,
)

pub returns-clause-first : goal.returns-clause-first
returns-clause-first c = all_below (BreaksType c.args.world.now) c.args.codes.now c.loop-code.code-index
    (option_map break_of c.loop-code.least) c.loop-code-test.false c.loop-code.invariant.0

pub returns-clause-types : goal.returns-clause-types
returns-clause-types c = mapped_2 c.loop-code.least _ _ (all_tables c.args.world.now c.args.codes.now
    c.loop-code.code-index _ c.loop-code-test.false) c.loop-code.invariant.1
