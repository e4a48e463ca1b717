use Rattle.std.proofs.Common.{◌≡◌, drop}
use Rattle.std.specs.Str.{bytes_eq}
use Rattle.cjc_group.specs.Trees.{are_alike}
use Rattle.cjc_group.proofs.trees.same_names.Given as goal

abbrev pub invariant-loop-place : goal.invariant-loop-place
invariant-loop-place l =
    are_alike bytes_eq (drop l.place l.left) (drop l.place l.right) ≡ are_alike bytes_eq l.left l.right
