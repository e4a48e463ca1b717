use Rattle.std.proofs.Common.{◌≡◌, map, take}
use Rattle.cjc_frames.specs.Flow.{edge}
use Rattle.cjc_frames.proofs.method.edges_to.Given as goal

abbrev pub invariant-loop-to : goal.invariant-loop-to
invariant-loop-to l = l.edges ≡ map (edge l.state) (take l.to-index l.more)
