use Rattle.std.proofs.Common.{◌+◌, ◌-◌, length}
use Rattle.cjc_types.proofs.recent.Sets.keep.Given as goal

abbrev pub decreases-loop-self : goal.decreases-loop-self
decreases-loop-self l = l.at + 1 - length l.self.sets.items
