use Rattle.std.proofs.Common.{◌≡◌, drop, map}
use Rattle.cjc_check.specs.Codes.Bodies.{code_of, placed_of}
use Rattle.cjc_check_rules.specs.Instructions.{in_code}
use Rattle.cjc_check_rules.specs.Spots.{earlier, first}
use Rattle.cjc_check.proofs.jumps.jumps.in_code.Given as goal

abbrev pub invariant-loop-i : goal.invariant-loop-i
invariant-loop-i l = earlier l.least (first (in_code (code_of l.body) (map placed_of (drop l.i l.insns))))
    ≡ first (in_code (code_of l.body) (map placed_of l.insns))
