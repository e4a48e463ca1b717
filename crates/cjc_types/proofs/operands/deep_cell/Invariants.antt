use Rattle.std.proofs.Common.{◌≡◌, ◌≤◌, ◌+◌, take, length, reverse}
use Rattle.cjc_types.specs.Steps.{operand}
use Rattle.cjc_types.specs.Working.Parts.{bottom_up}
use Rattle.cjc_types.proofs.operands.deep_cell.Given as goal

abbrev pub invariant-loop-count : goal.invariant-loop-count
invariant-loop-count l = record {
  within : l.count ≤ length l.parts;
  same : length (bottom_up (take l.count l.parts)) + l.k ≡ length (bottom_up l.parts) + l.left;
  read : operand (reverse (bottom_up (take l.count l.parts))) l.left ≡ operand (reverse (bottom_up l.parts)) l.k;
}

abbrev pub decreases-loop-count : goal.decreases-loop-count
decreases-loop-count l = l.count
