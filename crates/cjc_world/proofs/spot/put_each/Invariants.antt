use Rattle.std.proofs.Common.{◌≡◌, ◌-◌, ◌++◌}
use Rattle.cjc_world.specs.Working.Spots.{spots_from}
use Rattle.cjc_world.proofs.spot.put_each.Given as goal

abbrev pub invariant-loop-class : goal.invariant-loop-class
invariant-loop-class l = l.spots.items ++ spots_from l.place l.number l.class (l.count - l.class)
    ≡ l.initial.spots.items ++ spots_from l.place l.number 0 l.count
