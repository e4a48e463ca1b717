use Rattle.std.proofs.Common.{◌≡◌, ◌++◌, take}
use Rattle.std.specs.List.{flat_map}
use Rattle.cjc_components.specs.Statics.{element_bytes}
use Rattle.cjc_classes.proofs.descriptor.statics.put_elements.Given as goal

abbrev pub invariant-loop-item : goal.invariant-loop-item
invariant-loop-item l = l.out ≡ l.fn.out ++ flat_map (element_bytes l.kind) (take l.item-index l.items)
