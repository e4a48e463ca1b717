use Rattle.std.proofs.Common.{◌≡◌, take}
use Rattle.cjc_jvm_link.proofs.joint.copy_items.Given as goal

abbrev pub invariant-loop-item : goal.invariant-loop-item
invariant-loop-item l = l.copy ≡ take l.item-index l.items
