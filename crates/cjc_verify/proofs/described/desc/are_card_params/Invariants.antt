use Rattle.std.proofs.Common.{◌≡◌}
use Rattle.std.specs.List.{list_all}
use Rattle.cjc_bytes.specs.Descriptor.{Part}
use Rattle.cjc_card_acts.specs.Script.Sorts.{sort_of}
use Rattle.cjc_verify.specs.Pairs.{is_card_sort}
use Rattle.cjc_verify.proofs.described.desc.are_card_params.Given as goal

abbrev pub invariant-loop-kind : goal.invariant-loop-kind
invariant-loop-kind l = record {
  can : (goal.iterator-loop-kind).can_next l.kind-iterator;
  ends : (goal.iterator-loop-kind).is_finite l.kind-iterator;
  same : let d = l.desc in list_all (λ (x : Part). is_card_sort (sort_of x)) l.kind-iterator
      ≡ list_all (λ (x : Part). is_card_sort (sort_of x)) d.params;
}
