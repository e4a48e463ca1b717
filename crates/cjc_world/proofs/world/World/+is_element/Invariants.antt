use Rattle.std.proofs.Common.{length}
use Rattle.cjc_world.proofs.world.World.+is_element.Given as goal

abbrev pub decreases-is_element : goal.decreases-is_element
decreases-is_element l = length l.sub.now
