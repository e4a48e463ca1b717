use Rattle.std.proofs.Common.{sym, subst, Option}
use Rattle.cjc_fixpoint.specs.Working.HandedLaws.{OwnMaybe, merged_own, picked, picked_own}
use Rattle.cjc_fixpoint.proofs.Runs.{first_of, rest_of, more_step}
use Rattle.cjc_fixpoint.proofs.handed.handed.Goals as goal

pub with_edge-requires-clause-own : goal.with_edge-requires-clause-own
with_edge-requires-clause-own g c =
    let flow = g.F.Flow.meaning c.args.flow.now in
    first_of (λ e. flow.Own e.state) _ c.in-Some.edge _ c.in-Some.ensures.steps.0 c.loop-edge.invariant.own

pub loop-edge-preserved : goal.loop-edge-preserved
loop-edge-preserved g c =
    let flow = g.F.Flow.meaning c.args.flow.now in
    let laws = g.met.F.Flow.laws c.args.flow.now in
    let inv = c.loop-edge.invariant in
    let steps = c.in-Some.ensures.steps.0 in
    let own = first_of (λ e. flow.Own e.state) _ c.in-Some.edge _ steps inv.own in
    record {
      own_row = subst (λ (r : Option _). OwnMaybe flow r) (sym c.in_ok-row.ensures)
          (merged_own flow laws c.loop-edge.row (picked c.args.to c.in-Some.edge) inv.own_row
          (picked_own flow laws c.args.to c.in-Some.edge own));
      own = rest_of (λ e. flow.Own e.state) _ c.in-Some.edge _ steps inv.own;
      rest = more_step flow c.args.to c.loop-edge.row c.in_ok-row.row _ c.in-Some.edge _ _ c.in_ok-row.ensures steps
          inv.rest;
    }
