use Rattle.std.proofs.Common.{◌≡◌, drop}
use Rattle.std.specs.List.{flat_map}
use Rattle.cjc_world.specs.Classes.{all_classes}
use Rattle.cjc_subset.specs.Limits.{listed_by_imported, noted}
use Rattle.cjc_subset.proofs.interfaces.note_exports.Given as goal

abbrev pub invariant-loop-tree : goal.invariant-loop-tree
invariant-loop-tree l = noted l.known (flat_map (λ d. listed_by_imported (all_classes l.world) l.class d.classes)
    (drop l.tree-index l.exports)) ≡ noted l.initial.known (flat_map (λ d. listed_by_imported (all_classes l.world)
    l.class d.classes) l.exports)
