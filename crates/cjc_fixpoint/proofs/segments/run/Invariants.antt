use Rattle.std.proofs.Common.{◌≡◌, ◌-◌, ℕ, Some, true}
use Rattle.std.specs.Ordering.{nat_cmp}
use Rattle.std.specs.BTreeMap.{get as state_at}
use Rattle.cjc_fixpoint.specs.Working.HandedLaws.{OwnMaybe}
use Rattle.cjc_fixpoint.specs.Kept.{handed_more}
use Rattle.cjc_fixpoint.specs.Shortened.{short_run}
use Rattle.cjc_fixpoint.proofs.segments.run.Given as goal

abbrev pub invariant-loop-at : goal.invariant-loop-at
invariant-loop-at g l =
    let flow = g.F.Flow.meaning l.flow in
    let again = g.F.Repeating.again l.flow in
    record {
      own : OwnMaybe flow l.row;
      own_out : (k : ℕ) → OwnMaybe flow (state_at nat_cmp l.out k);
      rest : (k : ℕ) → handed_more flow k (state_at nat_cmp l.out k) (short_run flow l.marks again (l.end - l.at) l.at
          l.asks l.row) ≡ handed_more flow k (state_at nat_cmp l.initial.out k) (short_run flow l.marks again
          (l.end - l.start) l.start true (Some l.fn.state));
    }
