use Rattle.std.proofs.Common.{◌≡◌, map, false}
use Rattle.cjc_ncode.specs.LowerScript.Sorts.{sort_of}
use Rattle.cjc_int_mode.specs.Working.Scratch.{has_short_before}
use Rattle.cjc_int_mode.proofs.descriptors.has_short_before.Given as goal

abbrev pub invariant-loop-kind : goal.invariant-loop-kind
invariant-loop-kind l = record {
  can : (goal.iterator-loop-kind).can_next l.kind-iterator;
  ends : (goal.iterator-loop-kind).is_finite l.kind-iterator;
  looked : has_short_before l.short_before (map sort_of l.kind-iterator)
      ≡ has_short_before false (map sort_of l.desc.params);
}
