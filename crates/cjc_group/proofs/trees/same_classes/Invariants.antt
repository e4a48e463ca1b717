use Rattle.std.proofs.Common.{◌≡◌, drop}
use Rattle.cjc_group.specs.Trees.{same_class}
use Rattle.cjc_group.specs.Trees.{are_alike}
use Rattle.cjc_group.proofs.trees.same_classes.Given as goal

abbrev pub invariant-loop-place : goal.invariant-loop-place
invariant-loop-place l =
    are_alike same_class (drop l.place l.left) (drop l.place l.right) ≡ are_alike same_class l.left l.right
