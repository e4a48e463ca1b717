use Rattle.std.proofs.Common.{◌≡◌, take}
use Rattle.std.specs.List.{flat_map}
use Rattle.cjc_world.specs.ExportFile.declared.tree.ExportTree.{ExportTree}
use Rattle.cjc_group.specs.Missing.{missing_above}
use Rattle.cjc_group.proofs.missing.gaps.Given as goal

abbrev pub invariant-loop-tree : goal.invariant-loop-tree
invariant-loop-tree l = l.names ≡ flat_map (λ (t : ExportTree). missing_above l.group l.member t.classes)
    (take l.tree-index l.member.files.exports)
