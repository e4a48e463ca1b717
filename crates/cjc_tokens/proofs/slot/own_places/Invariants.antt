use Rattle.std.proofs.Common.{map, take}
use Rattle.cjc_world.specs.Classes.{method_of_class}
use Rattle.cjc_tokens.specs.Working.{AreOwn}
use Rattle.cjc_tokens.proofs.slot.own_places.Given as goal

abbrev pub invariant-loop-place : goal.invariant-loop-place
invariant-loop-place l = AreOwn l.hidden l.places (map method_of_class (take l.place l.methods))
