use Rattle.std.proofs.Common.{◌<◌, length, sym, ap, subst, ◌∙◌}
use Rattle.std.specs.Prelude.{option_map}
use Rattle.std.proofs.lemmas.List.{length-map}
use Rattle.cjc_code.specs.ClassFile.declared.tree.ClassTree.{ClassTree}
use Rattle.cjc_world.specs.Classes.{all_classes, declared}
use Rattle.cjc_bytes.specs.Told.{break_of}
use Rattle.cjc_subset.specs.Overriding.{supertype_breaks}
use Rattle.cjc_subset.specs.Working.Kinds.{kinds_of}
use Rattle.cjc_bytes.proofs.Firsts.{each_none, each_more, each_all}
use Rattle.cjc_subset.proofs.overriding.declared_break.Goals as goal

pub loop-place-init : goal.loop-place-init
loop-place-init c = λ f e. each_none (λ _ (d : ClassTree). supertype_breaks (all_classes c.args.world.now) f
    c.args.class.now (declared 0 d)) c.args.others.now

-- there are as many kinds as classes
pub bounds-kinds-place : goal.bounds-kinds-place
bounds-kinds-place c = subst (λ n. c.loop-place.place < n) (sym (ap length c.requires
    ∙ length-map c.args.others.now kinds_of)) c.loop-place-test.true

pub loop-place-preserved : goal.loop-place-preserved
loop-place-preserved c = λ f e. each_more (λ _ (d : ClassTree). supertype_breaks (all_classes c.args.world.now) f
    c.args.class.now (declared 0 d)) c.loop-place.place c.args.others.now c.index-others-place.result
    (option_map break_of c.first-least.result) c.loop-place-test.true c.index-others-place.is
    (c.first-least.ensures _ _ (c.loop-place.invariant f e) (c.in_ok-broken.ensures f e))

pub returns : goal.returns
returns c = λ f e. each_all (λ _ (d : ClassTree). supertype_breaks (all_classes c.args.world.now) f c.args.class.now
    (declared 0 d)) c.loop-place.place c.args.others.now (option_map break_of c.loop-place.least)
    c.loop-place-test.false (c.loop-place.invariant f e)
