use Rattle.std.proofs.Common.{◌≡◌, take}
use Rattle.std.specs.List.{flat_map}
use Rattle.cjc_capread.specs.Descriptor.{two_nibbles}
use Rattle.cjc_capread.proofs.descriptor.nibbles_of.Given as goal

abbrev pub invariant-loop-pair : goal.invariant-loop-pair
invariant-loop-pair l = l.nibbles ≡ flat_map two_nibbles (take l.pair-index l.pairs)
