use Rattle.std.proofs.Common.{ap}
use Rattle.cjc_types.specs.Flow.{Body}
use Rattle.cjc_types.proofs.Passing.{gone_is}
use Rattle.cjc_types.proofs.method.Method.go_on.Goals as goal

pub returns : goal.returns
returns c =
    gone_is c.args.self.now c.self.inside.insns.now c.args.at c.index-self-at.result c.args.before c.in_ok-after.field-0
    c.goes_on.result
    (ap (λ (b : Body). b.insns) c.self.view_is) c.if-at-self.false c.goes_on.ensures c.if-not-goes_on.false
    c.in_ok-after.ensures
