use Rattle.std.proofs.Common.{◌≡◌, length, take}
use Rattle.std.specs.List.{flat_map}
use Rattle.cjc_capwrite.specs.Size.{capped}
use Rattle.cjc_capwrite.specs.Class.{implemented_bytes}
use Rattle.cjc_capwrite.proofs.sizes.implemented_interfaces_size.Given as goal

abbrev pub invariant-loop-implemented : goal.invariant-loop-implemented
invariant-loop-implemented l =
    l.size ≡ capped (length (flat_map implemented_bytes (take l.implemented-index l.interfaces)))
