use Rattle.cjc_card_calls.proofs.FilesLaws.Counting.{count_more}
use Rattle.cjc_card_calls.proofs.files.steps.super_count.Goals as goal

pub loop-tree-preserved : goal.loop-tree-preserved
loop-tree-preserved c =
    count_more c.loop-tree.tree-index c.tree-item.result c.args.trees.now c.items.result.now c.loop-tree.count
    c.in_ok-file_supers.field-0 c.in_ok-count.count _ c.loop-tree-test.true c.tree-item.is c.items.ensures
    c.in_ok-file_supers.ensures c.in_ok-count.ensures c.loop-tree.invariant
