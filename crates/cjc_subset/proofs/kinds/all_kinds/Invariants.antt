use Rattle.std.proofs.Common.{◌≡◌, map, take}
use Rattle.cjc_subset.specs.Working.Kinds.{kinds_of}
use Rattle.cjc_subset.proofs.kinds.all_kinds.Given as goal

abbrev pub invariant-loop-class : goal.invariant-loop-class
invariant-loop-class l = l.kinds ≡ map kinds_of (take l.class-index l.classes)
