use Rattle.std.proofs.Common.{◌≡◌, ◌∙◌, ◌+◌, sym, ap, ◌++◌, ◌∷◌, [], take, map, arith, refl, cond, append-nil}
use Rattle.std.proofs.Common.{append_assoc}
use Rattle.std.specs.Prelude.{count_by}
use Rattle.cjc_world.specs.Classes.{method_of_class}
use Rattle.cjc_tokens.specs.Methods.{class_method_tokens, is_open_bound}
use Rattle.cjc_tokens.specs.Working.{signs, slot_token}
use Rattle.cjc_tokens.proofs.Sums.{count_next, count_before}
use Rattle.cjc_tokens.proofs.Counts.{mapped-there, tokens-next}
use Rattle.cjc_tokens.proofs.methods.put_method_tokens.Goals as goal
use Rattle.cjc_tokens.proofs.methods.put_method_tokens.Goals.{then-is_open_bound, else-is_open_bound}

pub loop-place-init : goal.loop-place-init
unfolding class_method_tokens
loop-place-init c = record { tokens = sym (append-nil c.args.tokens.now); bounds = refl }

pub method_token-requires-clause-high : goal.method_token-requires-clause-high
method_token-requires-clause-high c = λ exported open_one.
    let few = c.requires.high exported in
    let at = mapped-there method_of_class c.args.methods.now c.loop-place.place c.index-methods-place.result
    c.loop-place-test.true c.index-methods-place.is in
    let before = count_before is_open_bound (map method_of_class c.args.methods.now) c.loop-place.place
    (method_of_class c.index-methods-place.result) at.0 at.1 open_one in
    let is = c.loop-place.invariant.bounds in
    omega arith

pub loop-place-preserved : goal.loop-place-preserved
loop-place-preserved c =
    let at = mapped-there method_of_class c.args.methods.now c.loop-place.place c.index-methods-place.result
    c.loop-place-test.true c.index-methods-place.is in
    let ms = map method_of_class c.args.methods.now in
    let shown = slot_token c.args.shown.now in
    let hidden = signs c.args.hidden.now in
    let e = count_next is_open_bound ms c.loop-place.place (method_of_class c.index-methods-place.result) at.0 at.1 in
    record {
      tokens =
          c.in_ok-push.ensures.ok ∙ ap (λ q. q ++ c.method_token.result ∷ []) c.loop-place.invariant.tokens
          ∙ append_assoc c.args.tokens.now (class_method_tokens c.args.exported shown hidden ms 0
          (take c.loop-place.place ms)) (c.method_token.result ∷ [])
          ∙ ap (λ q. c.args.tokens.now
          ++ (class_method_tokens c.args.exported shown hidden ms 0 (take c.loop-place.place ms) ++ q ∷ []))
          c.method_token.ensures
          ∙ ap (λ q. c.args.tokens.now ++ q) (sym (tokens-next c.args.exported shown hidden ms c.loop-place.place
          (method_of_class c.index-methods-place.result) at.0 at.1));
      bounds = elim c.if-is_open_bound.branch [
        | then-is_open_bound w ↦ w.bounds-is ∙ ap (λ q. q + 1) c.loop-place.invariant.bounds
            ∙ ap (λ b. count_by is_open_bound (take c.loop-place.place (map method_of_class c.args.methods.now)) + cond
            b 1 0) (sym (sym c.is_open_bound.ensures ∙ w.if-is_open_bound.true)) ∙ sym e
        | else-is_open_bound w ↦ w.bounds-is ∙ c.loop-place.invariant.bounds
            ∙ (let z : count_by is_open_bound (take c.loop-place.place (map method_of_class c.args.methods.now))
            ≡ count_by is_open_bound (take c.loop-place.place (map method_of_class c.args.methods.now)) + 0 =
            omega arith in z)
            ∙ ap (λ b. count_by is_open_bound (take c.loop-place.place (map method_of_class c.args.methods.now)) + cond
            b 1 0) (sym (sym c.is_open_bound.ensures ∙ w.if-is_open_bound.false)) ∙ sym e
      ];
    }
