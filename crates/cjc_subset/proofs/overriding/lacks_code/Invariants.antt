use Rattle.std.proofs.Common.{◌≡◌, drop}
use Rattle.std.specs.List.{list_any}
use Rattle.cjc_world.specs.Classes.{all_classes}
use Rattle.cjc_world.specs.Working.Known.{class_of}
use Rattle.cjc_subset.specs.Overriding.{has_no_code}
use Rattle.cjc_subset.proofs.overriding.lacks_code.Given as goal

abbrev pub invariant-loop-place : goal.invariant-loop-place
invariant-loop-place l = list_any (λ k. has_no_code (all_classes l.world) l.class (class_of l.known) k)
    (drop l.place (class_of l.known).methods) ≡ list_any (λ k. has_no_code (all_classes l.world) l.class
    (class_of l.known) k) (class_of l.known).methods
