use Rattle.std.proofs.Common.{◌≡◌, map, take}
use Rattle.cjc_card_acts.specs.Told.{type_told}
use Rattle.cjc_methods.specs.LowerCheck.Codes.Bodies.{placed_of}
use Rattle.cjc_verify.specs.Bodies.{step}
use Rattle.cjc_verify.proofs.bodies.steps.Given as goal

abbrev pub invariant-loop-placed : goal.invariant-loop-placed
invariant-loop-placed l = l.steps ≡ map (step l.pair (type_told l.type_)) (map placed_of (take l.placed-index l.insns))
