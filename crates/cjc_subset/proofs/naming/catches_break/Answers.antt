use Rattle.std.specs.Prelude.{option_map}
use Rattle.cjc_code.specs.ClassFile.declared.tree.Catch.{Catch}
use Rattle.cjc_bytes.specs.Told.{break_of}
use Rattle.cjc_subset.specs.Names.{catch_breaks}
use Rattle.cjc_bytes.proofs.Firsts.{at_same, each_none, each_more, each_all}
use Rattle.cjc_subset.proofs.naming.catches_break.Goals as goal

pub loop-catch-init : goal.loop-catch-init
loop-catch-init c = λ f e. each_none (λ _ (x : Catch). catch_breaks c.args.world.now f c.args.class.now c.args.place
    c.args.method.now x) c.args.catches.now

pub loop-catch-preserved : goal.loop-catch-preserved
unfolding catch_breaks
loop-catch-preserved c = λ f e. each_more (λ _ (x : Catch). catch_breaks c.args.world.now f c.args.class.now
    c.args.place c.args.method.now x) c.loop-catch.catch-index c.args.catches.now c.catch-item.result
    (option_map break_of c.first-least.result) c.loop-catch-test.true c.catch-item.is
    (c.first-least.ensures _ _ (c.loop-catch.invariant f e) (at_same 203 _ c.catches_missing.ensures
    (c.method_spot-spot.ensures f e) c.broken.ensures))

pub returns : goal.returns
returns c = λ f e. each_all (λ _ (x : Catch). catch_breaks c.args.world.now f c.args.class.now c.args.place
    c.args.method.now x) c.loop-catch.catch-index c.args.catches.now (option_map break_of c.loop-catch.least)
    c.loop-catch-test.false (c.loop-catch.invariant f e)
