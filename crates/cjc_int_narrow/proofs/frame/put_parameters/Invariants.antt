use Rattle.std.proofs.Common.{◌≡◌, ◌+◌, ◌≤◌, ◌*◌, ◌++◌, map, length}
use Rattle.cjc_int_mode.specs.Script.Sorts.{sort_of}
use Rattle.cjc_int_mode.specs.CardSemantics.Bytecode.Arguments.{widths}
use Rattle.cjc_int_narrow.specs.Working.Moves.{moved_all}
use Rattle.cjc_int_narrow.proofs.frame.put_parameters.Given as goal

abbrev pub invariant-loop-kind : goal.invariant-loop-kind
invariant-loop-kind l = record {
  can : (goal.iterator-loop-kind).can_next l.kind-iterator;
  ends : (goal.iterator-loop-kind).is_finite l.kind-iterator;
  code : l.out ++ moved_all l.word l.to (map sort_of l.kind-iterator) ≡ l.fn.out ++ moved_all l.first l.local
      (map sort_of l.desc.params);
  words : l.word + widths (map sort_of l.kind-iterator) ≤ 255;
  locals : l.to + 2 * length l.kind-iterator ≤ 255;
}
