use Rattle.std.proofs.Common.{◌≡◌, ℕ, List, drop}
use Rattle.cjc_card_semantics.specs.ExportFile.Supers.{class_named, classes_of}
use Rattle.cjc_card_semantics.specs.Machine.Classes.{or_else}
use Rattle.cjc_card_calls.specs.Files.Named.{class_under}
use Rattle.cjc_card_calls.proofs.files.named.by_name.Given as goal

abbrev pub invariant-loop-tree : goal.invariant-loop-tree
invariant-loop-tree l = (x : List ℕ)
    → or_else (class_under l.names x) (class_named (classes_of (drop l.tree-index l.trees)) x)
    ≡ class_named (classes_of l.trees) x
