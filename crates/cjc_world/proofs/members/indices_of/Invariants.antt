use Rattle.std.proofs.Common.{take}
use Rattle.cjc_world.specs.Working.Members.{AreIndices}
use Rattle.cjc_world.specs.Working.Spots.{stood}
use Rattle.cjc_world.proofs.members.indices_of.Given as goal

abbrev pub invariant-loop-spot : goal.invariant-loop-spot
invariant-loop-spot l = AreIndices (stood l.classes l.exports (take l.spot-index l.spots)) l.rows.items
