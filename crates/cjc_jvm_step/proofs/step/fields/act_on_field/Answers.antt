use Rattle.std.proofs.Common.{◌≡◌, ◌∙◌, ap, subst}
use Rattle.std.specs.Prelude.{Option, option_map}
use Rattle.std.proofs.lemmas.Result.{IfOk-weaker}
use Rattle.cjc_jvm_semantics.specs.Linked.{ResolvedField}
use Rattle.cjc_jvm_semantics.specs.Effects.{effect, field_get, field_put}
use Rattle.cjc_jvm_semantics.specs.Machine.{holder_of}
use Rattle.cjc_jvm_step.specs.Frame.Deeds.{FollowsEffect}
use Rattle.cjc_jvm_step.specs.Step.Names.{field_of}
use Rattle.cjc_jvm_step.specs.Step.Rows.{store_of}
use Rattle.cjc_jvm_step.proofs.step.fields.act_on_field.Goals as goal

pub returns-then-put-clause-row : goal.returns-then-put-clause-row
unfolding effect
returns-then-put-clause-row g c = λ statics.
    let l = g.L.LookUps.linked c.args.links.now in
    let f = c.args.frame.now in
    let before = store_of c.args.heap.now statics in
    let found : option_map (λ r. field_of r c.args.id.now) c.field-found.result ≡ l.field (holder_of f) c.args.id.now =
    c.field-found.ensures ∙ ap (λ h. l.field h c.args.id.now) c.holder.ensures in
    let P : Option ResolvedField → Type 0 = λ o. FollowsEffect (field_put l f.method f.at f.locals before o f.stack)
    c.put_field.result f c.put_field.new.frame before (store_of c.put_field.new.heap statics) in
    rw c.if-put.true (subst P found (c.put_field.ensures.row l statics))

pub returns-else-put-clause-row : goal.returns-else-put-clause-row
unfolding effect
returns-else-put-clause-row g c =
    let l = g.L.LookUps.linked c.args.links.now in
    let f = c.args.frame.now in
    let found : option_map (λ r. field_of r c.args.id.now) c.field-found.result ≡ l.field (holder_of f) c.args.id.now =
    c.field-found.ensures ∙ ap (λ h. l.field h c.args.id.now) c.holder.ensures in
    rw c.if-put.false (IfOk-weaker c.get_field.result _ _ (λ deed h. λ statics.
    let store = store_of c.args.heap.now statics in
    let P : Option ResolvedField → Type 0 = λ o. FollowsEffect (field_get l f.method f.at f.locals store o f.stack) deed
    f c.get_field.new.frame store store in
    subst P found (h l statics)) c.get_field.ensures)
