use Rattle.std.proofs.Common.{◌≡◌, length, take}
use Rattle.std.specs.List.{flat_map}
use Rattle.cjc_capwrite.specs.Size.{capped}
use Rattle.cjc_capwrite.specs.Export.{exported_class_bytes}
use Rattle.cjc_capwrite.proofs.sizes.exported_classes_size.Given as goal

abbrev pub invariant-loop-class : goal.invariant-loop-class
invariant-loop-class l = l.size ≡ capped (length (flat_map exported_class_bytes (take l.class-index l.classes)))
