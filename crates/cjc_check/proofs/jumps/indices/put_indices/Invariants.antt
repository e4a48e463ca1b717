use Rattle.std.proofs.Common.{◌≡◌, ◌++◌, drop, map}
use Rattle.std.specs.Prelude.{flat_map}
use Rattle.cjc_check.specs.Codes.Bodies.{placed_of}
use Rattle.cjc_check_rules.specs.Instructions.{indices}
use Rattle.cjc_check.specs.Jumps.Offsets.{AreNear, operand_at}
use Rattle.cjc_check.proofs.jumps.indices.put_indices.Given as goal

abbrev pub invariant-loop-placed : goal.invariant-loop-placed
invariant-loop-placed l = record {
  put : map operand_at l.all ++ flat_map indices (map placed_of (drop l.placed-index l.insns))
      ≡ map operand_at l.initial.all ++ flat_map indices (map placed_of l.insns);
  near : AreNear l.all;
}
