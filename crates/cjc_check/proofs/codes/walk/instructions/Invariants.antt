use Rattle.std.proofs.Common.{◌≡◌, ◌+◌, ◌-◌, ◌≤◌, length, map}
use Rattle.cjc_check_rules.specs.Codes.{instructions}
use Rattle.cjc_check.specs.Codes.Bodies.{AllAt, placed_of}
use Rattle.cjc_check.specs.Codes.Working.Steps.{behind}
use Rattle.cjc_check.proofs.codes.walk.instructions.Given as goal

abbrev pub invariant-loop-left : goal.invariant-loop-left
invariant-loop-left l = record {
  steps : length l.insns + l.left ≤ l.count;
  place : l.at + length l.rest ≡ l.first + length l.bytes;
  passed : l.count + length l.rest ≡ l.left + length l.bytes;
  walked : behind (map placed_of l.insns) (instructions (l.count - length l.insns) l.left l.at l.rest)
      ≡ instructions l.count l.count l.first l.bytes;
  kept : AllAt l.insns;
}

abbrev pub decreases-loop-left : goal.decreases-loop-left
decreases-loop-left l = l.left
