use Rattle.std.proofs.Common.{◌≡◌, ◌∙◌, ap, map, refl}
use Rattle.std.specs.Prelude.{Some, None, option_map}
use Rattle.std.proofs.lemmas.Result.{IfOk-weaker}
use Rattle.cjc_script.specs.declared.report.Thing.TheVariants.{Object}
use Rattle.cjc_jvm_semantics.specs.Effects.{effect, fresh_field, with_new}
use Rattle.cjc_jvm_semantics.specs.Machine.{holder_of}
use Rattle.cjc_jvm_step.specs.Frame.Deeds.{FollowsEffect}
use Rattle.cjc_jvm_step.specs.Step.Rows.{store_of}
use Rattle.cjc_jvm_step.proofs.StepLaws.Making.{made_some, made_none}
use Rattle.cjc_jvm_step.proofs.step.objects.new_of.Goals as goal

pub returns-in-Some-clause-row : goal.returns-in-Some-clause-row
unfolding effect
returns-in-Some-clause-row g c =
    let l = g.L.LookUps.linked c.args.links.now in
    let f = c.args.frame.now in
    let class = c.args.class.now in
    let fresh = c.in-Some.fresh.now in
    let found : Some fresh ≡ option_map (λ ids. map fresh_field ids) (l.made (holder_of f) class) = c.in-Some.ensures
    ∙ ap (λ h. option_map (λ ids. map fresh_field ids) (l.made h class)) c.holder.ensures in
    IfOk-weaker c.new_object.result _ _ (λ deed h. λ statics.
    let store = store_of c.args.heap.now statics in
    let after = store_of c.new_object.new.heap statics in
    let r : FollowsEffect (with_new l f.method f.at f.locals store (Object class fresh) f.stack) deed f
    c.new_object.new.frame store after = h l statics in
    record {
      effect = made_some (l.made (holder_of f) class) fresh found (λ fields. with_new l f.method f.at f.locals store
          (Object class fields) f.stack) ∙ r.effect;
      keeps = r.keeps;
    }) c.new_object.ensures.row

pub returns-in-None-clause-row : goal.returns-in-None-clause-row
unfolding effect
returns-in-None-clause-row g c = λ statics.
    let l = g.L.LookUps.linked c.args.links.now in
    let f = c.args.frame.now in
    let class = c.args.class.now in
    let store = store_of c.args.heap.now statics in
    let found : None ≡ option_map (λ ids. map fresh_field ids) (l.made (holder_of f) class) = c.in-None.ensures
    ∙ ap (λ h. option_map (λ ids. map fresh_field ids) (l.made h class)) c.holder.ensures in
    record {
      effect = made_none (l.made (holder_of f) class) found (λ ids. with_new l f.method f.at f.locals store
          (Object class (map fresh_field ids)) f.stack);
      keeps = (refl, refl);
    }
