use Rattle.std.proofs.Common.{◌≡◌, ◌<◌, ℕ, filter_map, Contains}
use Rattle.std.specs.Vec.Iter.{into_iter_items}
use Rattle.std.specs.Ordering.{nat_cmp}
use Rattle.std.specs.BTreeMap.{get as state_at}
use Rattle.cjc_fixpoint.specs.declared.flow.Edge.{Edge}
use Rattle.cjc_fixpoint.specs.Working.HandedLaws.{OwnMaybe}
use Rattle.cjc_fixpoint.specs.Kept.{handed_more, handed}
use Rattle.cjc_fixpoint.specs.Segments.{to_segment}
use Rattle.cjc_fixpoint.proofs.segments.deal.Given as goal

abbrev pub invariant-loop-edge : goal.invariant-loop-edge
invariant-loop-edge g l =
    let flow = g.F.Flow.meaning l.flow in
    record {
      own_row : OwnMaybe flow l.row;
      own : (e : Edge g.row.F-State.Denot) → Contains (into_iter_items l.edge-iterator) e → flow.Own e.state;
      own_out : (k : ℕ) → OwnMaybe flow (state_at nat_cmp l.out k);
      dealt : (k : ℕ) → handed_more flow k (state_at nat_cmp l.out k) (filter_map (to_segment l.marks)
          (into_iter_items l.edge-iterator)) ≡ handed_more flow k (state_at nat_cmp l.initial.out k)
          (filter_map (to_segment l.marks) (into_iter_items l.initial.edge-iterator));
      rest : l.next < l.end → handed_more flow l.next l.row (into_iter_items l.edge-iterator)
          ≡ handed flow l.next (into_iter_items l.initial.edge-iterator);
    }
