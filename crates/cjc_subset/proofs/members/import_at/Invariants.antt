use Rattle.std.proofs.Common.{◌≡◌, drop}
use Rattle.std.specs.Prelude.{slice_get}
use Rattle.cjc_subset.specs.Members.{imports}
use Rattle.cjc_subset.proofs.members.import_at.Given as goal

abbrev pub invariant-loop-tree : goal.invariant-loop-tree
invariant-loop-tree l = slice_get (imports (drop l.tree-index l.exports)) l.left ≡ slice_get (imports l.exports)
    l.number
