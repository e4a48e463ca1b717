use Rattle.std.proofs.Common.{◌≡◌, ◌++◌, map}
use Rattle.cjc_types.specs.Types.{parts}
use Rattle.cjc_intervals.specs.Values.{range_of}
use Rattle.cjc_flow.proofs.values.put_parameters.Given as goal

abbrev pub invariant-loop-kind : goal.invariant-loop-kind
invariant-loop-kind l = record {
  can : (goal.iterator-loop-kind).can_next l.kind-iterator;
  ends : (goal.iterator-loop-kind).is_finite l.kind-iterator;
  same : l.ranges ++ map range_of l.kind-iterator ≡ l.initial.ranges ++ map range_of (parts l.desc).params;
}
