use Rattle.std.proofs.Common.{◌≡◌, take, map}
use Rattle.cjc_classes.specs.ClassInfo.Entries.{entry_offset}
use Rattle.cjc_classes.proofs.class_info.entries.public_methods.Given as goal

abbrev pub invariant-loop-method : goal.invariant-loop-method
invariant-loop-method l = l.row ≡ map (entry_offset l.offsets) (take l.method-index l.methods)
