use Rattle.std.proofs.Common.{ℕ, sym, subst, Option}
use Rattle.std.specs.Ordering.{nat_cmp}
use Rattle.std.specs.BTreeMap.{get as state_at}
use Rattle.cjc_fixpoint.specs.Working.HandedLaws.{OwnMaybe}
use Rattle.cjc_fixpoint.specs.Segments.{to_segment}
use Rattle.cjc_fixpoint.proofs.Runs.{first_of, rest_of, more_step}
use Rattle.cjc_fixpoint.proofs.Listing.{hand_step, one_own}
use Rattle.cjc_fixpoint.proofs.segments.deal.Goals as goal

pub deal_one-requires-clause-own : goal.deal_one-requires-clause-own
deal_one-requires-clause-own g c =
    let flow = g.F.Flow.meaning c.args.flow.now in
    first_of (λ e. flow.Own e.state) _ c.in-Some.edge _ c.in-Some.ensures.steps.0 c.loop-edge.invariant.own

pub loop-edge-preserved : goal.loop-edge-preserved
loop-edge-preserved g c =
    let flow = g.F.Flow.meaning c.args.flow.now in
    let laws = g.met.F.Flow.laws c.args.flow.now in
    let inv = c.loop-edge.invariant in
    let steps = c.in-Some.ensures.steps.0 in
    let did = c.in_ok-row.ensures in
    let own = first_of (λ e. flow.Own e.state) _ c.in-Some.edge _ steps inv.own in
    record {
      own_row = did.own;
      own = rest_of (λ e. flow.Own e.state) _ c.in-Some.edge _ steps inv.own;
      own_out = λ k. subst (λ (o : Option _). OwnMaybe flow o) (sym (did.out k)) (one_own flow laws c.args.marks.now k
          (state_at nat_cmp c.loop-edge.out k) c.in-Some.edge (inv.own_out k) own);
      dealt = λ k. hand_step flow (to_segment c.args.marks.now) k (state_at nat_cmp c.loop-edge.out k)
          (state_at nat_cmp c.deal_one.new.out k) _ c.in-Some.edge _ _ (did.out k) steps (inv.dealt k);
      rest = λ lt. more_step flow c.args.next c.loop-edge.row c.in_ok-row.row _ c.in-Some.edge _ _ (did.next lt) steps
          (inv.rest lt);
    }
