use Rattle.std.proofs.Common.{◌≡◌, map, take}
use Rattle.cjc_intervals.specs.Steps.{operand}
use Rattle.cjc_flow.proofs.steps.operands.Given as goal

abbrev pub invariant-loop-place : goal.invariant-loop-place
invariant-loop-place l = l.cells ≡ map (operand l.stack) (take l.place-index l.places)
