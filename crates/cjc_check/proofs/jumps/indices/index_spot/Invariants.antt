use Rattle.std.proofs.Common.{◌≡◌, drop, map}
use Rattle.std.specs.Prelude.{flat_map}
use Rattle.cjc_check_rules.specs.Spots.{earlier, first}
use Rattle.cjc_check.specs.Jumps.Offsets.{index_spot, operand_at}
use Rattle.cjc_check.proofs.jumps.indices.index_spot.Given as goal

abbrev pub invariant-loop-index : goal.invariant-loop-index
invariant-loop-index l =
    earlier l.least (first (flat_map (index_spot l.entries) (map operand_at (drop l.index-index l.indices))))
    ≡ first (flat_map (index_spot l.entries) (map operand_at l.indices))
