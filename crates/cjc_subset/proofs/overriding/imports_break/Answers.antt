use Rattle.std.proofs.Common.{List, subst}
use Rattle.std.specs.Prelude.{option_map}
use Rattle.cjc_world.specs.ExportFile.declared.tree.ExportClass.{ExportClass}
use Rattle.cjc_world.specs.ExportFile.declared.tree.ExportTree.{ExportTree}
use Rattle.cjc_world.specs.Classes.{all_classes, imported}
use Rattle.cjc_bytes.specs.Told.{break_of}
use Rattle.cjc_subset.specs.Overriding.{supertype_breaks}
use Rattle.cjc_bytes.specs.Breaks.{IsFirstOf, each}
use Rattle.cjc_bytes.proofs.Firsts.{each_none, each_more, each_all}
use Rattle.cjc_subset.proofs.overriding.imports_break.Goals as goal

pub loop-tree-init : goal.loop-tree-init
loop-tree-init c = λ f e. each_none (λ _ (d : ExportTree). each (λ _ x. supertype_breaks (all_classes c.args.world.now)
    f c.args.class.now (imported 0 x)) d.classes) c.args.exports.now

pub loop-tree-preserved : goal.loop-tree-preserved
loop-tree-preserved c =
    λ f e. each_more (λ _ (d : ExportTree). each (λ _ x. supertype_breaks (all_classes c.args.world.now) f
    c.args.class.now (imported 0 x)) d.classes) c.loop-tree.tree-index c.args.exports.now c.tree-item.result
    (option_map break_of c.first-least.result) c.loop-tree-test.true c.tree-item.is
    (c.first-least.ensures _ _ (c.loop-tree.invariant f e) (subst (λ (xs : List ExportClass). IsFirstOf
    (each (λ _ x. supertype_breaks (all_classes c.args.world.now) f c.args.class.now (imported 0 x)) xs)
    (option_map break_of c.in_ok-broken.broken)) c.items.ensures (c.in_ok-broken.ensures f e)))

pub returns : goal.returns
returns c = λ f e. each_all (λ _ (d : ExportTree). each (λ _ x. supertype_breaks (all_classes c.args.world.now) f
    c.args.class.now (imported 0 x)) d.classes) c.loop-tree.tree-index c.args.exports.now
    (option_map break_of c.loop-tree.least) c.loop-tree-test.false (c.loop-tree.invariant f e)
