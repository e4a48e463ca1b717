use Rattle.std.proofs.Common.{◌≡◌, ◌∷◌, map, take}
use Rattle.cjc_types.specs.Steps.{case_target}
use Rattle.cjc_types.proofs.insns.case_offsets.Given as goal

abbrev pub invariant-loop-case : goal.invariant-loop-case
invariant-loop-case l = l.offsets ≡ l.first ∷ map case_target (take l.case-index l.cases)
