use Rattle.std.proofs.Common.{◌∙◌, sym, ap, ◌++◌, ◌∷◌, [], take}
use Rattle.cjc_tokens.specs.Fields.{instance_tokens}
use Rattle.cjc_tokens.proofs.Sums.{instance_tokens-next}
use Rattle.cjc_tokens.proofs.fields.instance_tokens.Goals as goal

pub loop-place-init : goal.loop-place-init
unfolding instance_tokens
loop-place-init c = c.new-tokens.ensures

pub loop-place-preserved : goal.loop-place-preserved
loop-place-preserved c =
    c.in_ok-push.ensures.ok ∙ ap (λ q. q ++ c.instance_field_token.result ∷ []) c.loop-place.invariant
    ∙ ap (λ q. instance_tokens c.args.fields.now 0 (take c.loop-place.place c.args.fields.now)
    ++ q ∷ []) c.instance_field_token.ensures
    ∙ sym (instance_tokens-next c.args.fields.now c.loop-place.place c.index-fields-place.result c.loop-place-test.true
    c.index-fields-place.is)
