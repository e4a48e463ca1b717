use Rattle.cjc_check_index.proofs.ImportedLaws.Flat.{classes_all, starts_all}
use Rattle.cjc_check_index.proofs.imported.classes.all_classes.Goals as goal

pub returns-clause-all : goal.returns-clause-all
returns-clause-all c = classes_all c.loop-tree.tree-index c.args.exports.now c.loop-tree.all _ c.loop-tree-test.false
    c.loop-tree.invariant.0

pub returns-clause-starts : goal.returns-clause-starts
returns-clause-starts c = starts_all c.loop-tree.tree-index _ c.args.exports.now c.loop-tree.starts _
    c.loop-tree-test.false c.loop-tree.invariant.1
