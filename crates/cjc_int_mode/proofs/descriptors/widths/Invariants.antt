use Rattle.std.proofs.Common.{◌≡◌, ◌+◌, ◌<◌, ◌≤◌, ◌*◌, ◌^◌, map, length}
use Rattle.cjc_ncode.specs.LowerScript.Sorts.{sort_of}
use Rattle.cjc_ncode.specs.LowerCardSemantics.Bytecode.Arguments.{widths}
use Rattle.cjc_int_mode.proofs.descriptors.widths.Given as goal

abbrev pub invariant-loop-kind : goal.invariant-loop-kind
invariant-loop-kind l = record {
  can : (goal.iterator-loop-kind).can_next l.kind-iterator;
  ends : (goal.iterator-loop-kind).is_finite l.kind-iterator;
  counted : l.words + widths (map sort_of l.kind-iterator) ≡ widths (map sort_of l.desc.params);
  few : l.words + 2 * length l.kind-iterator ≤ 2 * length l.desc.params;
  small : length l.desc.params < 2 ^ 32;
}
