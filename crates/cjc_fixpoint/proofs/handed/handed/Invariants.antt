use Rattle.std.proofs.Common.{◌≡◌, Contains}
use Rattle.std.specs.Vec.Iter.{into_iter_items}
use Rattle.cjc_fixpoint.specs.declared.flow.Edge.{Edge}
use Rattle.cjc_fixpoint.specs.Working.HandedLaws.{OwnMaybe}
use Rattle.cjc_fixpoint.specs.Kept.{handed_more, handed}
use Rattle.cjc_fixpoint.proofs.handed.handed.Given as goal

abbrev pub invariant-loop-edge : goal.invariant-loop-edge
invariant-loop-edge g l =
    let flow = g.F.Flow.meaning l.flow in
    record {
      own_row : OwnMaybe flow l.row;
      own : (e : Edge g.row.F-State.Denot) → Contains (into_iter_items l.edge-iterator) e → flow.Own e.state;
      rest : handed_more flow l.to l.row (into_iter_items l.edge-iterator)
          ≡ handed flow l.to (into_iter_items l.initial.edge-iterator);
    }
