use Rattle.std.proofs.Common.{sym, subst, arith}
use Rattle.std.specs.Prelude.{option_map}
use Rattle.cjc_bytes.specs.Told.{break_of}
use Rattle.cjc_clinit.specs.Bytecode.declared.method_code.MethodCode.{MethodCode}
use Rattle.cjc_narrow.specs.Types.Tables.{IsOfPackage}
use Rattle.cjc_judge.specs.Rules.{BreaksRange}
use Rattle.cjc_judge.proofs.Folds.{none_below, more_below, all_below}
use Rattle.cjc_judge.proofs.Moded.{all_modes, more_modes}
use Rattle.cjc_judge.proofs.Tables.{tables_sized, table_of}
use Rattle.cjc_judge.proofs.judging.ranges_break.Goals as goal

pub loop-place-init : goal.loop-place-init
loop-place-init c = (none_below (BreaksRange c.args.ints c.args.world.now) c.args.codes.now, c.requires.modes)

pub bounds-types-place : goal.bounds-types-place
bounds-types-place c = let sized = tables_sized c.args.world.now c.args.codes.now c.args.types.now c.requires.types
    in omega (arith, sized, c.loop-place-test.true)

pub range_break-requires-clause-code : goal.range_break-requires-clause-code
range_break-requires-clause-code c = subst (λ (x : MethodCode). IsOfPackage c.args.world.now x)
    (sym c.index-codes-place.is) (c.requires.codes c.loop-place.place c.index-codes-place.result c.loop-place-test.true)

pub range_break-requires-clause-types : goal.range_break-requires-clause-types
range_break-requires-clause-types c = table_of c.args.world.now c.args.codes.now c.args.types.now c.loop-place.place
    c.index-codes-place.result c.index-types-place.result c.requires.types c.loop-place-test.true c.index-codes-place.is
    c.index-types-place.is

pub loop-place-preserved : goal.loop-place-preserved
loop-place-preserved c = (
  more_below (BreaksRange c.args.ints c.args.world.now) c.args.codes.now c.loop-place.place c.index-codes-place.result
      (option_map break_of c.loop-place.least) (option_map break_of c.in_ok-broken.broken)
      (option_map break_of c.first-least.result)
      c.loop-place-test.true c.index-codes-place.is c.first-least.ensures c.loop-place.invariant.0
      c.in_ok-broken.ensures.first,
  more_modes c.args.ints c.args.world.now c.args.codes.now c.loop-place.place c.index-codes-place.result _ _
      c.loop-place-test.true c.index-codes-place.is c.loop-place.invariant.1 c.in_ok-broken.ensures.modes,
)

pub returns-clause-first : goal.returns-clause-first
returns-clause-first c = all_below (BreaksRange c.args.ints c.args.world.now) c.args.codes.now c.loop-place.place
    (option_map break_of c.loop-place.least) c.loop-place-test.false c.loop-place.invariant.0

pub returns-clause-modes : goal.returns-clause-modes
returns-clause-modes c = all_modes c.args.ints c.args.world.now c.args.codes.now c.loop-place.place _
    c.loop-place-test.false c.loop-place.invariant.1
