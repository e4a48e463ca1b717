use Rattle.std.proofs.Common.{◌≡◌, ◌∙◌, ap, subst}
use Rattle.std.specs.Prelude.{Option, option_map}
use Rattle.std.proofs.lemmas.Result.{IfOk-weaker}
use Rattle.cjc_jvm_semantics.specs.Linked.{ResolvedField}
use Rattle.cjc_jvm_semantics.specs.Effects.{effect, static_get, static_put}
use Rattle.cjc_jvm_semantics.specs.Machine.{holder_of}
use Rattle.cjc_jvm_step.specs.Frame.Deeds.{FollowsEffect}
use Rattle.cjc_jvm_step.specs.Step.Names.{field_of}
use Rattle.cjc_jvm_step.specs.Step.Rows.{store_of}
use Rattle.cjc_jvm_step.proofs.step.statics.act_on_static.Goals as goal

pub returns-then-put : goal.returns-then-put
unfolding effect
returns-then-put g c = λ heap.
    let l = g.L.LookUps.linked c.args.links.now in
    let f = c.args.frame.now in
    let before = store_of heap c.args.statics.now in
    let found : option_map (λ r. field_of r c.args.id.now) c.field-found.result ≡ l.field (holder_of f) c.args.id.now =
    c.field-found.ensures ∙ ap (λ h. l.field h c.args.id.now) c.holder.ensures in
    let P : Option ResolvedField → Type 0 = λ o. FollowsEffect (static_put l f.method f.at f.locals before o f.stack)
    c.put_static.result f c.put_static.new.frame before (store_of heap c.put_static.new.statics) in
    rw c.if-put.true (subst P found (c.put_static.ensures l heap))

pub returns-else-put : goal.returns-else-put
unfolding effect
returns-else-put g c =
    let l = g.L.LookUps.linked c.args.links.now in
    let f = c.args.frame.now in
    let found : option_map (λ r. field_of r c.args.id.now) c.field-found.result ≡ l.field (holder_of f) c.args.id.now =
    c.field-found.ensures ∙ ap (λ h. l.field h c.args.id.now) c.holder.ensures in
    rw c.if-put.false (IfOk-weaker c.get_static.result _ _ (λ deed h. λ heap.
    let store = store_of heap c.args.statics.now in
    let P : Option ResolvedField → Type 0 = λ o. FollowsEffect (static_get l f.method f.at f.locals store o f.stack)
    deed f c.get_static.new.frame store store in
    subst P found (h l heap)) c.get_static.ensures)
