use Rattle.std.proofs.Common.{◌≡◌, ◌++◌, drop}
use Rattle.cjc_methods.specs.Working.Places.{class_places}
use Rattle.cjc_methods.proofs.places.class_places.Given as goal

abbrev pub invariant-loop-class : goal.invariant-loop-class
invariant-loop-class l = l.rows ++ class_places l.next (drop l.class-index l.classes) ≡ class_places 0 l.classes
