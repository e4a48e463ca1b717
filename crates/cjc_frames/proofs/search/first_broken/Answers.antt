use Rattle.std.proofs.Common.{◌≡◌, List, Option, Some, None, length, sym, ◌∙◌, ap, subst}
use Rattle.cjc_types.specs.declared.state.State.{State}
use Rattle.cjc_frames.specs.Flow.{Body}
use Rattle.cjc_frames.specs.Tables.{IsLeastTable}
use Rattle.cjc_frames.proofs.Answering.{none_broken, one_broken}
use Rattle.cjc_frames.proofs.Least.{only_unbroken, only_broken}
use Rattle.cjc_frames.proofs.search.first_broken.Goals as goal

pub first_by-requires : goal.first_by-requires
first_by-requires g c =
    let least = c.in_ok-rows.ensures in
    let b = c.args.method.now in
    subst (λ (rows : List (Option State)). length rows ≡ length b.steps) (sym c.items.ensures) least.closed.sized

pub returns-in-Some-clause-answer : goal.returns-in-Some-clause-answer
returns-in-Some-clause-answer g c =
    one_broken (g.T.Subtypes.subtype c.args.types.now) c.args.method.now c.items.result.now c.in-Some.first
    c.method.inside.steps.now c.index-method-first.result
    (subst (IsLeastTable c.args.method.now) (sym c.items.ensures) c.in_ok-rows.ensures)
    (sym c.first_by.ensures.first ∙ c.in-Some.is)
    (ap (λ (b : Body). b.steps) c.method.view_is)

pub returns-in-Some-clause-unbroken : goal.returns-in-Some-clause-unbroken
returns-in-Some-clause-unbroken g c = only_unbroken (g.T.Subtypes.subtype c.args.types.now) c.args.method.now _
    (returns-in-Some-clause-answer g c)

pub returns-in-Some-clause-breaks : goal.returns-in-Some-clause-breaks
returns-in-Some-clause-breaks g c = only_broken (g.T.Subtypes.subtype c.args.types.now) c.args.method.now _
    (returns-in-Some-clause-answer g c)

pub returns-clause-answer : goal.returns-clause-answer
returns-clause-answer g c =
    none_broken (g.T.Subtypes.subtype c.args.types.now) c.args.method.now c.items.result.now
    (subst (IsLeastTable c.args.method.now) (sym c.items.ensures) c.in_ok-rows.ensures)
    (sym c.first_by.ensures.first ∙ c.in-None.is)

pub returns-clause-unbroken : goal.returns-clause-unbroken
returns-clause-unbroken g c = only_unbroken (g.T.Subtypes.subtype c.args.types.now) c.args.method.now None
    (returns-clause-answer g c)

pub returns-clause-breaks : goal.returns-clause-breaks
returns-clause-breaks g c = only_broken (g.T.Subtypes.subtype c.args.types.now) c.args.method.now None
    (returns-clause-answer g c)
