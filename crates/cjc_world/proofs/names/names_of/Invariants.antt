use Rattle.std.proofs.Common.{◌≡◌, ℕ, List, take}
use Rattle.cjc_world.specs.Working.Names.{place_in, spot_named}
use Rattle.cjc_world.proofs.names.names_of.Given as goal

abbrev pub invariant-loop-place : goal.invariant-loop-place
invariant-loop-place l = (x : List ℕ) → place_in l.names x ≡ spot_named l.classes l.exports (take l.place l.spots) x
