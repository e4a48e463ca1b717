use Rattle.std.proofs.Common.{◌≡◌, ◌∷◌, take}
use Rattle.cjc_frames.specs.Types.{class_nibble}
use Rattle.cjc_frames.proofs.sets.held.Given as goal

abbrev pub invariant-loop-nibble : goal.invariant-loop-nibble
invariant-loop-nibble l = l.type_ ≡ class_nibble ∷ take l.nibble-index l.class
