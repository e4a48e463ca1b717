use Rattle.std.proofs.Common.{◌≡◌, map, take}
use Rattle.cjc_check_rules.specs.ExportFile.declared.tree.ExportTree.{ExportTree}
use Rattle.cjc_check_index.specs.Lookup.Indexed.{places_of}
use Rattle.cjc_check_index.proofs.lookup.tokens.tokens_of.Given as goal

abbrev pub invariant-loop-tree : goal.invariant-loop-tree
invariant-loop-tree l = l.tokens ≡ map (λ (t : ExportTree). places_of t.classes) (take l.tree-index l.exports)
