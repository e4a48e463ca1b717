use Rattle.std.proofs.Common.{◌≡◌, ◌++◌}
use Rattle.cjc_flow.proofs.ranging.put_edges.Given as goal

abbrev pub invariant-loop-edge : goal.invariant-loop-edge
invariant-loop-edge l = l.edges ≡ l.initial.edges ++ l.yielded
