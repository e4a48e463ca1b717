use Rattle.std.proofs.Common.{◌≡◌, ◌++◌, drop, length}
use Rattle.cjc_check_rules.specs.ExportFile.Supers.{classes_of}
use Rattle.cjc_check_index.specs.Imported.Tokens.{file_starts}
use Rattle.cjc_check_index.proofs.imported.classes.all_classes.Given as goal

abbrev pub invariant-loop-tree : goal.invariant-loop-tree
invariant-loop-tree l =
    (l.all ++ classes_of (drop l.tree-index l.exports) ≡ classes_of l.exports)
    × (l.starts ++ file_starts (length l.all) (drop l.tree-index l.exports) ≡ file_starts 0 l.exports)
