use Rattle.std.proofs.Common.{◌≡◌, length, take}
use Rattle.std.specs.List.{flat_map}
use Rattle.cjc_capwrite.specs.Size.{capped}
use Rattle.cjc_capwrite.specs.Descriptor.{type_bytes}
use Rattle.cjc_capwrite.proofs.sizes.types_size.Given as goal

abbrev pub invariant-loop-descriptor : goal.invariant-loop-descriptor
invariant-loop-descriptor l = l.size ≡ capped (length (flat_map type_bytes (take l.descriptor-index l.types)))
