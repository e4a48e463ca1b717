use Rattle.std.proofs.Common.{◌≡◌, drop}
use Rattle.cjc_cmd_check.specs.Folder.Breaks.{component_breaks, with_components}
use Rattle.cjc_cmd_check.proofs.folder.trees.put_others.Given as goal

abbrev pub invariant-loop-at : goal.invariant-loop-at
invariant-loop-at l =
    (with_components l.cap (drop l.at l.tags) (drop l.at l.files) ≡ with_components l.fn.cap l.tags l.files)
    × (component_breaks l.tags l.files ≡ component_breaks (drop l.at l.tags) (drop l.at l.files))
