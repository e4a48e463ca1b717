use Rattle.std.proofs.Common.{◌≡◌, take, map}
use Rattle.cjc_class_info.specs.Entries.{offset_in}
use Rattle.cjc_class_info.proofs.entries.package_methods.Given as goal

abbrev pub invariant-loop-method : goal.invariant-loop-method
invariant-loop-method l = l.row ≡ map (offset_in l.offsets) (take l.method-index l.methods)
