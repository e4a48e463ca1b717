use Rattle.std.proofs.Common.{◌≡◌, ◌++◌, drop, map}
use Rattle.std.specs.Prelude.{flat_map}
use Rattle.cjc_check.specs.Jumps.Listing.{place_of}
use Rattle.cjc_check.specs.Jumps.Offsets.{operand_at}
use Rattle.cjc_check.proofs.jumps.locations.put_places.Given as goal

abbrev pub invariant-loop-index : goal.invariant-loop-index
invariant-loop-index l = l.places ++ flat_map (place_of l.size) (map operand_at (drop l.index-index l.indices))
    ≡ l.initial.places ++ flat_map (place_of l.size) (map operand_at l.indices)
