use Rattle.std.proofs.Common.{◌≡◌, ◌+◌, ◌-◌, ◌||◌, not, is_some, Bool, List, sym, ap, subst, Option}
use Rattle.std.specs.Ordering.{nat_cmp}
use Rattle.std.specs.BTreeMap.{get as state_at}
use Rattle.cjc_fixpoint.specs.Working.HandedLaws.{OwnMaybe}
use Rattle.cjc_fixpoint.specs.Kept.{handed_more, mark_of}
use Rattle.cjc_fixpoint.specs.Shortened.{short_run}
use Rattle.cjc_fixpoint.proofs.Runs.{own_of}
use Rattle.cjc_fixpoint.proofs.Listing.{hand_run, hand_over, asked_own}
use Rattle.cjc_fixpoint.proofs.segments.run.Goals as goal

pub returns-in-None : goal.returns-in-None
returns-in-None g c k =
    hand_over (g.F.Flow.meaning c.args.flow.now) c.args.marks.now (g.F.Repeating.again c.args.flow.now) k _ _ _ _
    c.loop-at.asks c.loop-at.row c.in-None.is (c.loop-at.invariant.rest k)

pub loop-at-preserved : goal.loop-at-preserved
loop-at-preserved g c =
    let flow = g.F.Flow.meaning c.args.flow.now in
    let again = g.F.Repeating.again c.args.flow.now in
    let laws = g.met.F.Flow.laws c.args.flow.now in
    let did = c.in_ok-row.ensures in
    let marks = c.args.marks.now in
    let at = c.loop-at.at in
    let own = own_of flow c.loop-at.row c.in-Some.state c.in-Some.is c.loop-at.invariant.own in
    record {
      own = did.own;
      own_out = λ k. subst (λ (o : Option _). OwnMaybe flow o) (sym (did.out k)) (asked_own flow laws marks k
          (state_at nat_cmp c.loop-at.out k) (c.loop-at.asks || is_some (mark_of marks (at + 1))) at c.in-Some.state
          (c.loop-at.invariant.own_out k) own);
      rest = λ k. hand_run flow marks again at c.repeats-asks.result c.repeats-asks.ensures k
          (state_at nat_cmp c.loop-at.out k) (state_at nat_cmp c.go_on.new.out k) _ c.args.end c.loop-at.asks
          c.loop-at.row c.in-Some.state c.in_ok-row.row c.loop-at-test.true c.in-Some.is (did.out k) did.next
          (c.loop-at.invariant.rest k);
    }
