use Rattle.std.proofs.Common.{◌≡◌, ◌+◌, Some, slice_get, length, ◌∙◌, ap, subst}
use Rattle.cjc_fixpoint.specs.Kept.{full}
use Rattle.cjc_fixpoint.specs.Walks.{Walking}
use Rattle.cjc_world.specs.Classes.{all_classes}
use Rattle.cjc_types.specs.declared.state.State.{State}
use Rattle.cjc_types.specs.Flow.{Body, type_flow}
use Rattle.cjc_types.proofs.Answering.{found_here, found_later}
use Rattle.cjc_types.proofs.inference.first_broken.Goals as goal

pub returns-in-Some-clause-first : goal.returns-in-Some-clause-first
returns-in-Some-clause-first c =
    let b = c.args.marked.now.method.now in
    let rows = full (type_flow b) (length b.insns) c.args.table.now.marks c.args.table.now.rows in
    found_here (all_classes c.args.world.now) b rows c.loop-place.place c.method.inside.insns.now
    c.index-insns-place.result c.row.result.now c.row_rule-broken.result
    (ap (λ (b : Body). b.insns) c.method.view_is) c.loop-place-test.true c.index-insns-place.is
    (subst (λ (s : Walking State). slice_get s.rows s.at ≡ Some c.row.result.now) c.loop-place.invariant.walk
    c.row.ensures) c.row_rule-broken.ensures c.loop-place.invariant.first c.in-Some.rule c.in-Some.is

pub loop-place-preserved : goal.loop-place-preserved
loop-place-preserved c =
    let b = c.args.marked.now.method.now in
    let rows = full (type_flow b) (length b.insns) c.args.table.now.marks c.args.table.now.rows in
    record {
      walk = c.in_ok-advance-in-None.ensures.ok ∙ ap (λ (s : Walking State). record { at = s.at + 1; rows = s.rows })
          c.loop-place.invariant.walk;
      first = found_later (all_classes c.args.world.now) b rows c.loop-place.place c.method.inside.insns.now
          c.index-insns-place.result c.row.result.now c.row_rule-broken.result
          (ap (λ (b : Body). b.insns) c.method.view_is) c.loop-place-test.true c.index-insns-place.is
          (subst (λ (s : Walking State). slice_get s.rows s.at ≡ Some c.row.result.now) c.loop-place.invariant.walk
          c.row.ensures) c.row_rule-broken.ensures c.loop-place.invariant.first c.in-None.is;
    }
