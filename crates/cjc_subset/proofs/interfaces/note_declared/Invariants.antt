use Rattle.std.proofs.Common.{◌≡◌, drop}
use Rattle.std.specs.List.{flat_map}
use Rattle.cjc_world.specs.Classes.{all_classes, declared}
use Rattle.cjc_subset.specs.Limits.{listed_above, noted}
use Rattle.cjc_subset.proofs.interfaces.note_declared.Given as goal

abbrev pub invariant-loop-other : goal.invariant-loop-other
invariant-loop-other l = noted l.known (flat_map (λ d. listed_above (all_classes l.world) l.class (declared 0 d))
    (drop l.other-index l.others)) ≡ noted l.initial.known (flat_map (λ d. listed_above (all_classes l.world) l.class
    (declared 0 d)) l.others)
