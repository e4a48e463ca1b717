use Rattle.std.proofs.Common.{sym, ap, ◌∙◌}
use Rattle.cjc_flow.specs.Working.Kept.{Ranged}
use Rattle.cjc_flow.proofs.Edges.{on_is, is_unreached}
use Rattle.cjc_flow.proofs.ranging.Ranging.go_on.Goals as goal

pub returns-in_ok-after-in-Some : goal.returns-in_ok-after-in-Some
returns-in_ok-after-in-Some c =
    on_is c.args.self.now c.args.at c.insns-insns.result.now c.index-insns-here.result c.args.before
    c.in_ok-after-in-Some.field-0 c.in-Some.element c.goes_on.result
    (c.insns-insns.ensures ∙ ap (λ (r : Ranged). r.body.insns) c.self.view_is) c.if-here-insns.false
    (λ there. sym c.in-Some.is ∙ c.element_at.ensures _ there) c.in_ok-after-in-Some.ensures c.goes_on.ensures
    c.if-not-goes_on.false

pub returns-in-None : goal.returns-in-None
returns-in-None c =
    is_unreached c.args.self.now c.args.at c.insns-insns.result.now c.index-insns-here.result c.args.before
    (c.insns-insns.ensures ∙ ap (λ (r : Ranged). r.body.insns) c.self.view_is) c.if-here-insns.false
    (λ there. sym c.in-None.is ∙ c.element_at.ensures _ there)
