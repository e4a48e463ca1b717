use Rattle.std.proofs.Common.{◌≡◌, ◌++◌, map, take}
use Rattle.cjc_card_semantics.specs.Machine.Statics
use Rattle.cjc_card_frame.proofs.image.first.push_arrays.Given as goal

abbrev pub invariant-loop-init : goal.invariant-loop-init
invariant-loop-init l = l.heap ≡ l.fn.heap ++ map Statics.first_array (take l.init-index l.init-items)
