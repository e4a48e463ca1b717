use Rattle.cjc_group.proofs.Alike.{tree-Decides}
use Rattle.cjc_group.proofs.trees.same_trees_are_one.Goals as goal

pub returns : goal.returns
returns c = tree-Decides
