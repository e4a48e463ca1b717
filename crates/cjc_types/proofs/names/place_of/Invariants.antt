use Rattle.std.proofs.Common.{◌≡◌, ◌++◌, take, drop}
use Rattle.cjc_types.specs.Names.{insert}
use Rattle.cjc_types.proofs.names.place_of.Given as goal

abbrev pub invariant-loop-at : goal.invariant-loop-at
invariant-loop-at l = insert l.name l.set ≡ take l.at l.set ++ insert l.name (drop l.at l.set)
