use Rattle.std.proofs.Common.{◌≡◌, get_or, ap, ◌∙◌, arith}
use Rattle.cjc_jvm_step.specs.Script.declared.value.Value.TheVariants.{Num}
use Rattle.std.proofs.Common.{pos}
use Rattle.cjc_jvm.proofs.RunsLaws.Lists.{fields_all, fields_more}
use Rattle.cjc_jvm.proofs.runs.reports.fields_of.Goals as goal

pub loop-i-preserved : goal.loop-i-preserved
loop-i-preserved c =
    let fresh = c.args.fresh.now in
    let d = c.index-fresh-i.result in
    let named : c.in_ok-field.field ≡ (get_or fresh c.loop-i.i d).field = c.in_ok-field.ensures
    ∙ ap (λ class. record (get_or fresh c.loop-i.i d).field { class = class }) c.items.ensures in
    fields_more fresh c.args.values.now c.loop-i.i d (Num (pos 0)) c.in_ok-field.field c.loop-i.fields c.push.new.self
    c.loop-i-test.true c.requires c.loop-i.invariant named c.in_ok-push.ensures.ok

pub returns : goal.returns
returns c = c.loop-i.invariant ∙ fields_all c.args.fresh.now c.args.values.now c.loop-i.i c.requires (omega arith)
