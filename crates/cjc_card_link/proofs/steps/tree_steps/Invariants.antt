use Rattle.std.proofs.Common.{◌≡◌, ◌+◌, drop}
use Rattle.cjc_card_semantics.specs.Machine.Classes.{tree_steps}
use Rattle.cjc_card_link.proofs.steps.tree_steps.Given as goal

abbrev pub invariant-loop-tree : goal.invariant-loop-tree
invariant-loop-tree l = l.steps + tree_steps (drop l.tree-index l.trees) ≡ tree_steps l.trees
