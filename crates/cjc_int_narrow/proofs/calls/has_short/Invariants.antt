use Rattle.std.proofs.Common.{◌≡◌, map}
use Rattle.std.specs.List.{list_any}
use Rattle.cjc_int_mode.specs.Script.Sorts.{sort_of}
use Rattle.cjc_ncode.specs.IntCode.IntCode.{is_short}
use Rattle.cjc_int_narrow.proofs.calls.has_short.Given as goal

abbrev pub invariant-loop-kind : goal.invariant-loop-kind
invariant-loop-kind l = record {
  can : (goal.iterator-loop-kind).can_next l.kind-iterator;
  ends : (goal.iterator-loop-kind).is_finite l.kind-iterator;
  looked : list_any is_short (map sort_of l.kind-iterator) ≡ list_any is_short (map sort_of l.desc.params);
}
