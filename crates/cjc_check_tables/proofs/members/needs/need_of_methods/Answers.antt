use Rattle.std.proofs.Common.{ap, ◌∙◌, ℕ}
use Rattle.cjc_check_tables.specs.Members.Working.Needs.{greater, need_of_methods}
use Rattle.cjc_check_tables.proofs.MembersLaws.NeedsOf.{methods_more, methods_all, none_greater}
use Rattle.cjc_check_tables.proofs.members.needs.need_of_methods.Goals as goal

pub loop-method-init : goal.loop-method-init
loop-method-init c = none_greater (need_of_methods c.args.methods.now)

pub loop-method-preserved : goal.loop-method-preserved
loop-method-preserved c = methods_more c.loop-method.method-index _ c.args.methods.now c.loop-method.need _ _
    c.loop-method-test.true
    (c.greater-need.ensures ∙ ap (λ (n : ℕ). greater c.loop-method.need n) c.need_of_method.ensures)
    c.loop-method.invariant

pub returns : goal.returns
returns c = methods_all c.loop-method.method-index c.args.methods.now c.loop-method.need _ c.loop-method-test.false
    c.loop-method.invariant
