use Rattle.std.proofs.Common.{◌≡◌, take}
use Rattle.std.specs.List.{fold}
use Rattle.cjc_check_index.specs.Imported.Working.Graph.{with_edge}
use Rattle.cjc_check_index.proofs.imported.graph.put_edges.Given as goal

abbrev pub invariant-loop-place : goal.invariant-loop-place
invariant-loop-place l = l.below.items ≡ fold (with_edge l.at) l.fn.below.items (take l.place-index l.above)
