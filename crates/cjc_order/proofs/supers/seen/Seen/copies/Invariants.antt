use Rattle.std.proofs.Common.{◌≡◌, take}
use Rattle.cjc_order.proofs.supers.seen.Seen.copies.Given as goal

abbrev pub invariant-loop-place : goal.invariant-loop-place
invariant-loop-place l = l.names ≡ take l.place l.self
