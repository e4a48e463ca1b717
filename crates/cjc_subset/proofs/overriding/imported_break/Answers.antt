use Rattle.std.specs.Prelude.{option_map}
use Rattle.cjc_world.specs.ExportFile.declared.tree.ExportClass.{ExportClass}
use Rattle.cjc_world.specs.Classes.{all_classes, imported}
use Rattle.cjc_bytes.specs.Told.{break_of}
use Rattle.cjc_subset.specs.Overriding.{supertype_breaks}
use Rattle.cjc_bytes.proofs.Firsts.{each_none, each_more, each_all}
use Rattle.cjc_subset.proofs.overriding.imported_break.Goals as goal

pub loop-other-init : goal.loop-other-init
loop-other-init c = λ f e. each_none (λ _ (d : ExportClass). supertype_breaks (all_classes c.args.world.now) f
    c.args.class.now (imported 0 d)) c.args.others.now

pub loop-other-preserved : goal.loop-other-preserved
loop-other-preserved c = λ f e. each_more (λ _ (d : ExportClass). supertype_breaks (all_classes c.args.world.now) f
    c.args.class.now (imported 0 d)) c.loop-other.other-index c.args.others.now c.other-item.result
    (option_map break_of c.first-least.result) c.loop-other-test.true c.other-item.is
    (c.first-least.ensures _ _ (c.loop-other.invariant f e) (c.in_ok-broken.ensures f e))

pub returns : goal.returns
returns c = λ f e. each_all (λ _ (d : ExportClass). supertype_breaks (all_classes c.args.world.now) f c.args.class.now
    (imported 0 d)) c.loop-other.other-index c.args.others.now (option_map break_of c.loop-other.least)
    c.loop-other-test.false (c.loop-other.invariant f e)
