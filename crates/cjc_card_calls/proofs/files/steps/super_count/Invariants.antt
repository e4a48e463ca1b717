use Rattle.std.proofs.Common.{◌≡◌, ◌+◌, drop}
use Rattle.cjc_card_semantics.specs.ExportFile.Supers.{classes_of, super_count}
use Rattle.cjc_card_calls.proofs.files.steps.super_count.Given as goal

abbrev pub invariant-loop-tree : goal.invariant-loop-tree
invariant-loop-tree l = l.count + super_count (classes_of (drop l.tree-index l.trees))
    ≡ super_count (classes_of l.trees)
