use Rattle.std.proofs.Common.{◌≡◌, drop, map}
use Rattle.std.specs.Prelude.{flat_map}
use Rattle.cjc_check.specs.Codes.Bodies.{code_of}
use Rattle.cjc_check_rules.specs.Instructions.{code_spots}
use Rattle.cjc_check_rules.specs.Spots.{earlier, first}
use Rattle.cjc_check.proofs.jumps.jumps.jump_spot.Given as goal

abbrev pub invariant-loop-body : goal.invariant-loop-body
invariant-loop-body l = earlier l.least (first (flat_map code_spots (map code_of (drop l.body-index l.bodies))))
    ≡ first (flat_map code_spots (map code_of l.bodies))
