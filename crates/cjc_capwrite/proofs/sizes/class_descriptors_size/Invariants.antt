use Rattle.std.proofs.Common.{◌≡◌, length, take}
use Rattle.std.specs.List.{flat_map}
use Rattle.cjc_capwrite.specs.Size.{capped}
use Rattle.cjc_capwrite.specs.Descriptor.{class_descriptor_bytes}
use Rattle.cjc_capwrite.proofs.sizes.class_descriptors_size.Given as goal

abbrev pub invariant-loop-class : goal.invariant-loop-class
invariant-loop-class l = l.size ≡ capped (length (flat_map class_descriptor_bytes (take l.class-index l.classes)))
