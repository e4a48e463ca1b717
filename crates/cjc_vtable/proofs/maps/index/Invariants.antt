use Rattle.std.proofs.Common.{◌≡◌, take, map}
use Rattle.cjc_tokens.specs.Working.{signs, slot_token}
use Rattle.cjc_vtable.specs.Working.Naming.{index_of}
use Rattle.cjc_vtable.proofs.maps.index.Given as goal

abbrev pub invariant-loop-method : goal.invariant-loop-method
invariant-loop-method l = l.index.items ≡ map (index_of (slot_token l.shown)) (signs (take l.method-index l.methods))
