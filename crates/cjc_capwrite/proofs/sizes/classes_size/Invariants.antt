use Rattle.std.proofs.Common.{◌≡◌, length, take}
use Rattle.std.specs.List.{flat_map}
use Rattle.cjc_capwrite.specs.Size.{capped}
use Rattle.cjc_capwrite.specs.Class.{class_entry_bytes}
use Rattle.cjc_capwrite.proofs.sizes.classes_size.Given as goal

abbrev pub invariant-loop-class : goal.invariant-loop-class
invariant-loop-class l = l.size ≡ capped (length (flat_map class_entry_bytes (take l.class-index l.classes)))
