use Rattle.std.proofs.Common.{◌≡◌, ◌++◌, drop}
use Rattle.cjc_tokens.specs.Tokens.{imports_of}
use Rattle.cjc_tokens.proofs.imports.import_tokens.Given as goal

abbrev pub invariant-loop-tree : goal.invariant-loop-tree
invariant-loop-tree l = l.rows ++ imports_of (drop l.tree-index l.exports) ≡ imports_of l.exports
