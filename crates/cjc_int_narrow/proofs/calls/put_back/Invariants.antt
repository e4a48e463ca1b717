use Rattle.std.proofs.Common.{◌≡◌, ◌+◌, ◌≤◌, ◌*◌, ◌++◌, map, length}
use Rattle.cjc_int_mode.specs.Script.Sorts.{sort_of}
use Rattle.cjc_int_narrow.specs.Working.Moves.{back_all}
use Rattle.cjc_int_narrow.proofs.calls.put_back.Given as goal

abbrev pub invariant-loop-kind : goal.invariant-loop-kind
invariant-loop-kind l = record {
  can : (goal.iterator-loop-kind).can_next l.kind-iterator;
  ends : (goal.iterator-loop-kind).is_finite l.kind-iterator;
  code : l.out ++ back_all l.word (map sort_of l.kind-iterator) ≡ l.fn.out ++ back_all l.scratch (map sort_of
      l.desc.params);
  words : l.word + 2 * length l.kind-iterator ≤ 255;
}
