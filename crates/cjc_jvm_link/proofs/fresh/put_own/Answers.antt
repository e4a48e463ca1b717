use Rattle.std.proofs.Common.{◌≡◌, ◌<◌, ◌++◌, ◌∷◌, [], ◌∙◌, ap, subst, get_or, length}
use Rattle.std.specs.Prelude.{if◌then◌else◌}
use Rattle.cjc_world.specs.Bytes.AccessFlags.{is_static}
use Rattle.cjc_jvm_semantics.specs.Effects.{fresh_field}
use Rattle.cjc_jvm_link.proofs.Fields.{named, fresh_of, more_fresh}
use Rattle.cjc_jvm_link.proofs.Walks.{walk_step}
use Rattle.cjc_jvm_link.proofs.fresh.put_own.Goals as goal

pub loop-field-preserved : goal.loop-field-preserved
loop-field-preserved c =
    let class = c.args.class.now in
    let i = c.loop-field.field-index in
    let field = c.field-item.result in
    let inside : i < length class.fields = subst (λ ys. i < length ys) c.items-field-items.ensures
    c.loop-field-test.true in
    let is : field ≡ get_or class.fields i field = c.field-item.is
    ∙ ap (λ ys. get_or ys i field) c.items-field-items.ensures in
    walk_step (fresh_of class.name) (λ f. if is_static f.flags then [] else fresh_field (named class.name f)
    ∷ []) class.fields (more_fresh class.name)
    i field c.args.fields.now c.loop-field.fields c.put_field.new.fields inside is c.loop-field.invariant
    (c.in_ok-put_field.ensures ∙ ap (λ n. c.loop-field.fields ++ (if is_static field.flags then []
    else fresh_field (named n field) ∷ [])) c.items.ensures)
