use Rattle.cjc_card_calls.proofs.FilesLaws.Lines.{file_more}
use Rattle.cjc_card_calls.proofs.files.files.files_of.Goals as goal

pub loop-tree-preserved : goal.loop-tree-preserved
loop-tree-preserved c =
    file_more c.args.names.now c.loop-tree.tree-index c.tree-item.result c.args.trees.now c.items.result.now
    c.loop-tree.files c.push.new.self c.in_ok-file_of.field-0 c.loop-tree-test.true c.tree-item.is c.items.ensures
    c.in_ok-file_of.ensures c.in_ok-push.ensures.ok c.loop-tree.invariant
