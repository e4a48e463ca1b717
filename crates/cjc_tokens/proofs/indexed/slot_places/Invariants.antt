use Rattle.std.proofs.Common.{take}
use Rattle.cjc_tokens.specs.SlotRows.{ArePlaces}
use Rattle.cjc_tokens.proofs.indexed.slot_places.Given as goal

abbrev pub invariant-loop-place : goal.invariant-loop-place
invariant-loop-place l = ArePlaces l.places (take l.place l.row)
