use Rattle.std.proofs.Common.{◌≡◌, ℕ, List, drop}
use Rattle.cjc_card_semantics.specs.Machine.Classes.{external_from, or_else}
use Rattle.cjc_card_link.specs.Indices.{class_under}
use Rattle.cjc_card_link.proofs.exported.names_of.Given as goal

abbrev pub invariant-loop-tree : goal.invariant-loop-tree
invariant-loop-tree l =
    (l.number ≡ l.tree-index)
    × ((x : List ℕ) → or_else (class_under l.names x) (external_from l.tree-index (drop l.tree-index l.trees) x)
    ≡ external_from 0 l.trees x)
