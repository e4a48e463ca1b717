use Rattle.std.proofs.Common.{◌≡◌, ◌++◌, drop, map}
use Rattle.std.specs.Prelude.{flat_map}
use Rattle.cjc_check.specs.Codes.Bodies.{code_of}
use Rattle.cjc_check_rules.specs.Instructions.{indices}
use Rattle.cjc_check.specs.Jumps.Offsets.{AreNear, operand_at}
use Rattle.cjc_check.proofs.jumps.indices.all_indices.Given as goal

abbrev pub invariant-loop-body : goal.invariant-loop-body
invariant-loop-body l = record {
  put : map operand_at l.all ++ flat_map (λ code. flat_map indices code.instructions)
      (map code_of (drop l.body-index l.bodies)) ≡ flat_map (λ code. flat_map indices code.instructions)
      (map code_of l.bodies);
  near : AreNear l.all;
}
