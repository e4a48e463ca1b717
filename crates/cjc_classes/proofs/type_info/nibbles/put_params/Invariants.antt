use Rattle.std.proofs.Common.{◌≡◌, ◌++◌, map}
use Rattle.std.specs.List.{flat_map}
use Rattle.cjc_components.specs.LowerScript.Sorts.{sort_of}
use Rattle.cjc_components.specs.Types.{sort_nibbles}
use Rattle.cjc_classes.specs.ClassInfo.Refs.{ref_of}
use Rattle.cjc_classes.proofs.type_info.nibbles.put_params.Given as goal

abbrev pub invariant-loop-kind : goal.invariant-loop-kind
invariant-loop-kind l = record {
  can : (goal.iterator-loop-kind).can_next l.kind-iterator;
  ends : (goal.iterator-loop-kind).is_finite l.kind-iterator;
  same : let d = l.desc in l.out ++ flat_map (sort_nibbles (ref_of l.refs)) (map sort_of l.kind-iterator) ≡ l.fn.out
      ++ flat_map (sort_nibbles (ref_of l.refs)) (map sort_of d.params);
}
