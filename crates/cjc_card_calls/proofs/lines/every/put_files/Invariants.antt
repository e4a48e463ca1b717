use Rattle.std.proofs.Common.{◌≡◌, ◌++◌, drop, map}
use Rattle.cjc_card_frame.specs.Objects.{class_of}
use Rattle.cjc_card_calls.specs.Lines.Every.{files_classes}
use Rattle.cjc_card_calls.proofs.lines.every.put_files.Given as goal

abbrev pub invariant-loop-tree : goal.invariant-loop-tree
invariant-loop-tree l =
    (l.number ≡ l.tree-index)
    × (map class_of l.classes ++ files_classes l.tree-index (drop l.tree-index l.trees) ≡ map class_of l.fn.classes
    ++ files_classes 0 l.trees)
