use Rattle.std.proofs.Common.{◌≡◌, map, take}
use Rattle.cjc_export.specs.declared.tree.ExportTree.{ExportTree}
use Rattle.cjc_lookup.specs.Indexed.{places_of}
use Rattle.cjc_lookup.proofs.tokens.tokens_of.Given as goal

abbrev pub invariant-loop-tree : goal.invariant-loop-tree
invariant-loop-tree l = l.tokens ≡ map (λ (t : ExportTree). places_of t.classes) (take l.tree-index l.exports)
