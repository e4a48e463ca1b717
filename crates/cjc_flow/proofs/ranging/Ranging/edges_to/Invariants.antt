use Rattle.std.proofs.Common.{◌≡◌, map, take}
use Rattle.cjc_flow.specs.Working.Kept.{kept_edge}
use Rattle.cjc_flow.proofs.ranging.Ranging.edges_to.Given as goal

abbrev pub invariant-loop-to : goal.invariant-loop-to
invariant-loop-to l = l.edges ≡ map (kept_edge l.self l.state) (take l.to-index l.more)
