use Rattle.std.proofs.Common.{◌≡◌, ◌++◌, take}
use Rattle.std.specs.List.{flat_map}
use Rattle.cjc_capwrite.specs.Descriptor.{type_bytes}
use Rattle.cjc_capwrite.proofs.descriptor.put_types.Given as goal

abbrev pub invariant-loop-descriptor : goal.invariant-loop-descriptor
invariant-loop-descriptor l = l.out ≡ l.fn.out ++ flat_map type_bytes (take l.descriptor-index l.types)
