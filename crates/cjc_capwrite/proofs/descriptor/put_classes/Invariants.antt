use Rattle.std.proofs.Common.{◌≡◌, ◌++◌, take}
use Rattle.std.specs.List.{flat_map}
use Rattle.cjc_capwrite.specs.Descriptor.{class_descriptor_bytes}
use Rattle.cjc_capwrite.proofs.descriptor.put_classes.Given as goal

abbrev pub invariant-loop-class : goal.invariant-loop-class
invariant-loop-class l = l.out ≡ l.fn.out ++ flat_map class_descriptor_bytes (take l.class-index l.classes)
