use Rattle.std.proofs.Common.{◌≡◌, length, take}
use Rattle.std.specs.List.{flat_map}
use Rattle.cjc_capwrite.specs.Size.{capped}
use Rattle.cjc_capwrite.specs.Class.{interface_bytes}
use Rattle.cjc_capwrite.proofs.sizes.interfaces_size.Given as goal

abbrev pub invariant-loop-interface : goal.invariant-loop-interface
invariant-loop-interface l = l.size ≡ capped (length (flat_map interface_bytes (take l.interface-index l.interfaces)))
