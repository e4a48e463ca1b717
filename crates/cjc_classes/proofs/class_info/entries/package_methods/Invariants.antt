use Rattle.std.proofs.Common.{◌≡◌, take, map}
use Rattle.cjc_classes.specs.ClassInfo.Entries.{offset_in}
use Rattle.cjc_classes.proofs.class_info.entries.package_methods.Given as goal

abbrev pub invariant-loop-method : goal.invariant-loop-method
invariant-loop-method l = l.row ≡ map (offset_in l.offsets) (take l.method-index l.methods)
