use Rattle.std.proofs.Common.{◌+◌, List, ℕ, drop, sym, ap, ◌∙◌}
use Rattle.std.specs.List.{flat_map}
use Rattle.cjc_world.specs.ExportFile.declared.tree.ExportClass.{ExportClass}
use Rattle.cjc_world.specs.ExportFile.declared.tree.ExportTree.{ExportTree}
use Rattle.cjc_world.specs.Classes.{all_classes}
use Rattle.cjc_subset.specs.Limits.{listed_by_imported, noted}
use Rattle.cjc_subset.proofs.Noted.{list_on, lists_done}
use Rattle.cjc_subset.proofs.interfaces.note_exports.Goals as goal

pub loop-tree-preserved : goal.loop-tree-preserved
loop-tree-preserved c =
    let f = λ (d : ExportTree). listed_by_imported (all_classes c.args.world.now) c.args.class.now d.classes in
    ap (λ (ks : List (List ℕ)). noted ks (flat_map f (drop (c.loop-tree.tree-index + 1) c.args.exports.now)))
    (c.in_ok-note_imported.ensures
    ∙ ap (λ (xs : List ExportClass). noted c.loop-tree.known (listed_by_imported (all_classes c.args.world.now)
    c.args.class.now xs)) c.items.ensures)
    ∙ sym (list_on f c.args.exports.now c.loop-tree.tree-index c.loop-tree.known c.tree-item.result
    c.loop-tree-test.true c.tree-item.is)
    ∙ c.loop-tree.invariant

pub returns : goal.returns
returns c =
    let f = λ (d : ExportTree). listed_by_imported (all_classes c.args.world.now) c.args.class.now d.classes in
    sym (lists_done f c.args.exports.now c.loop-tree.tree-index c.loop-tree.known c.loop-tree-test.false)
    ∙ c.loop-tree.invariant
