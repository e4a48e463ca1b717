use Rattle.std.proofs.Common.{◌≡◌, sym, ◌∙◌, subst}
use Rattle.cjc_intervals.specs.Flow.{entry}
use Rattle.cjc_types.specs.Tables.{rows_of}
use Rattle.cjc_flow.specs.Working.Kept.{Ranged}
use Rattle.cjc_flow.proofs.Loading.{rows_sized}
use Rattle.cjc_flow.proofs.Marked.{entry_empty}
use Rattle.cjc_flow.proofs.ranging.RangingFlow.entry.Goals as goal

pub returns-then-places-eq0 : goal.returns-then-places-eq0
returns-then-places-eq0 c =
    let method = c.self.inside.method in
    let types = c.self.inside.types.now in
    let none = sym c.places.ensures ∙ c.if-places-eq0.true in
    subst (λ (r : Ranged). c.in_ok-first.first ≡ entry r.body r.types) c.self.view_is
    (c.in_ok-first.ensures ∙ entry_empty method (rows_of method types) (rows_sized method types ∙ none) none)
