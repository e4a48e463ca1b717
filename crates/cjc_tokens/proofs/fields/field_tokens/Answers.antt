use Rattle.std.proofs.Common.{◌≡◌, ◌∙◌, ◌+◌, sym, ap, ◌++◌, ◌∷◌, [], take, arith, refl, cond}
use Rattle.std.specs.Prelude.{count_by}
use Rattle.cjc_tokens.specs.Fields.{field_tokens, is_open_static}
use Rattle.cjc_tokens.proofs.Sums.{field_tokens-next, count_next, count_before}
use Rattle.cjc_tokens.proofs.fields.field_tokens.Goals as goal
use Rattle.cjc_tokens.proofs.fields.field_tokens.Goals.{then-is_open_static, else-is_open_static}

pub loop-place-init : goal.loop-place-init
unfolding field_tokens
loop-place-init c = record { tokens = c.new-tokens.ensures; statics = refl }

pub field_token-requires-clause-high : goal.field_token-requires-clause-high
field_token-requires-clause-high c = λ exported open_one.
    let few = c.requires.high exported in
    let before = count_before is_open_static c.args.fields.now c.loop-place.place c.index-fields-place.result
    c.loop-place-test.true c.index-fields-place.is open_one in
    let is = c.loop-place.invariant.statics in
    omega arith

pub loop-place-preserved : goal.loop-place-preserved
loop-place-preserved c = record {
  tokens =
      c.in_ok-push.ensures.ok ∙ ap (λ q. q ++ c.field_token.result ∷ []) c.loop-place.invariant.tokens
      ∙ ap (λ q. field_tokens c.args.exported c.args.fields.now 0 (take c.loop-place.place c.args.fields.now)
      ++ q ∷ []) c.field_token.ensures
      ∙ sym (field_tokens-next c.args.exported c.args.fields.now c.loop-place.place c.index-fields-place.result
      c.loop-place-test.true c.index-fields-place.is);
  statics =
      let e = count_next is_open_static c.args.fields.now c.loop-place.place c.index-fields-place.result
      c.loop-place-test.true c.index-fields-place.is in
      elim c.if-is_open_static.branch [
        | then-is_open_static w ↦ w.statics-is ∙ ap (λ q. q + 1) c.loop-place.invariant.statics
            ∙ ap (λ b. count_by is_open_static (take c.loop-place.place c.args.fields.now) + cond b 1 0)
            (sym (sym c.is_open_static.ensures ∙ w.if-is_open_static.true)) ∙ sym e
        | else-is_open_static w ↦ w.statics-is ∙ c.loop-place.invariant.statics
            ∙ (let z : count_by is_open_static (take c.loop-place.place c.args.fields.now) ≡ count_by is_open_static
            (take c.loop-place.place c.args.fields.now) + 0 = omega arith in z)
            ∙ ap (λ b. count_by is_open_static (take c.loop-place.place c.args.fields.now) + cond b 1 0)
            (sym (sym c.is_open_static.ensures ∙ w.if-is_open_static.false)) ∙ sym e
      ];
}
