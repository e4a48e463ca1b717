use Rattle.std.proofs.Common.{◌≡◌, ◌++◌, take}
use Rattle.std.specs.List.{flat_map}
use Rattle.cjc_capwrite.specs.Descriptor.{method_descriptor_bytes}
use Rattle.cjc_capwrite.proofs.descriptor.put_methods.Given as goal

abbrev pub invariant-loop-method : goal.invariant-loop-method
invariant-loop-method l = l.out ≡ l.fn.out ++ flat_map method_descriptor_bytes (take l.method-index l.methods)
