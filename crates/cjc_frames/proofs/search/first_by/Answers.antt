use Rattle.std.proofs.Common.{ap}
use Rattle.cjc_frames.specs.Flow.{Body}
use Rattle.cjc_frames.proofs.Answering.{found_here, found_later}
use Rattle.cjc_frames.proofs.search.first_by.Goals as goal

pub returns-in-Some-clause-first : goal.returns-in-Some-clause-first
returns-in-Some-clause-first g c =
    found_here (g.T.Subtypes.subtype c.args.types.now) c.args.method.now c.args.rows.now c.loop-place.place
    c.method.inside.max_stack c.method.inside.steps.now c.index-steps-place.result c.index-rows-place.result
    c.row_rule-broken.result
    (ap (λ (b : Body). b.max_stack) c.method.view_is) (ap (λ (b : Body). b.steps) c.method.view_is) c.requires
    c.loop-place-test.true c.index-steps-place.is c.index-rows-place.is c.row_rule-broken.ensures
    c.loop-place.invariant c.in-Some.rule c.in-Some.is

pub loop-place-preserved : goal.loop-place-preserved
loop-place-preserved g c =
    found_later (g.T.Subtypes.subtype c.args.types.now) c.args.method.now c.args.rows.now c.loop-place.place
    c.method.inside.max_stack c.method.inside.steps.now c.index-steps-place.result c.index-rows-place.result
    c.row_rule-broken.result
    (ap (λ (b : Body). b.max_stack) c.method.view_is) (ap (λ (b : Body). b.steps) c.method.view_is) c.requires
    c.loop-place-test.true c.index-steps-place.is c.index-rows-place.is c.row_rule-broken.ensures
    c.loop-place.invariant c.in_default.is
