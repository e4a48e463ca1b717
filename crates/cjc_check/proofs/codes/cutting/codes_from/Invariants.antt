use Rattle.std.proofs.Common.{◌≡◌, ◌+◌, drop, length, map}
use Rattle.cjc_check_rules.specs.Codes.{codes_from}
use Rattle.cjc_check.specs.Codes.Bodies.{AreBodies, code_of}
use Rattle.cjc_check.specs.Codes.Working.Steps.{behind}
use Rattle.cjc_check.proofs.codes.cutting.codes_from.Given as goal

abbrev pub invariant-loop-method : goal.invariant-loop-method
invariant-loop-method l = record {
  place : l.at + length l.rest ≡ l.from + length l.bytes;
  walked : behind (map code_of l.bodies) (codes_from l.at (drop l.method-index l.methods) l.rest)
      ≡ codes_from l.from l.methods l.bytes;
  kept : AreBodies l.bodies;
}
