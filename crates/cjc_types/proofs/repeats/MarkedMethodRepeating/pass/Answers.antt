use Rattle.std.proofs.Common.{◌≡◌, Option, sym, ◌∙◌, subst}
use Rattle.std.specs.Result.{IfOk}
use Rattle.cjc_types.specs.declared.state.State.{State}
use Rattle.cjc_types.proofs.Passing.{ascend, pass_is}
use Rattle.cjc_types.proofs.repeats.MarkedMethodRepeating.pass.Goals as goal

pub is_marked-requires : goal.is_marked-requires
is_marked-requires c = ascend c.args.self.now.method.now c.items.result.now (c.items.ensures ∙ c.args.self.now.marked)

pub returns : goal.returns
returns c =
    subst (λ (o : Option State). IfOk c.go_on.result (λ next. next ≡ o))
    (sym (pass_is c.args.self.now.method.now c.items.result.now c.args.at c.args.before (c.items.ensures
    ∙ c.args.self.now.marked) (sym c.if-is_marked.false ∙ c.is_marked.ensures))) c.go_on.ensures
