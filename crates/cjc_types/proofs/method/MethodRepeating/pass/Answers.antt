use Rattle.std.proofs.Common.{◌≡◌, Option, sym, ◌∙◌, subst}
use Rattle.std.specs.Result.{IfOk}
use Rattle.cjc_types.specs.declared.state.State.{State}
use Rattle.cjc_types.specs.Working.MarkLaws.{leads_on, leads_straight}
use Rattle.cjc_types.proofs.method.MethodRepeating.pass.Goals as goal

pub returns : goal.returns
returns c =
    subst (λ (o : Option State). IfOk c.go_on.result (λ next. next ≡ o))
    (sym (leads_on c.args.self.now c.args.at c.args.before (leads_straight c.args.self.now c.args.at (sym c.may_lead.ensures ∙ c.if-may_lead.false)))) c.go_on.ensures
