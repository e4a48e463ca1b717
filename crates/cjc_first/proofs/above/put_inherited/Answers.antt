use Rattle.std.proofs.Common.{sym, ap, [], ◌∷◌, ◌++◌, ◌∙◌, append-nil}
use Rattle.cjc_export.specs.declared.tree.ExportMethod.{ExportMethod}
use Rattle.cjc_first.specs.Above.{with_token}
use Rattle.cjc_first.proofs.Inheriting.{put_more, put_all}
use Rattle.cjc_first.proofs.above.put_inherited.Goals as goal
use Rattle.cjc_first.proofs.above.put_inherited.Goals.{in-Some+in_ok-copy_of+in_ok-push, in_default}

pub loop-token-preserved : goal.loop-token-preserved
loop-token-preserved c =
    let again = ap (λ ms. with_token c.loop-token.token ms) c.items.ensures in
    elim c.match-with_token.branch [
      | in-Some+in_ok-copy_of+in_ok-push w ↦ (
          let copied = w.in_ok-copy_of.ensures in
          put_more _ _ _ _ _ c.loop-token-test.true c.loop-token.invariant
          (w.methods-is ∙ w.in_ok-push.ensures.ok ∙ ap (λ (m : ExportMethod). c.loop-token.methods ++ m ∷ []) copied ∙ ap (λ ms. c.loop-token.methods ++ ms) (w.in-Some.ensures ∙ again)))
      | in_default w ↦ put_more _ _ _ _ _ c.loop-token-test.true c.loop-token.invariant
          (w.methods-is ∙ sym (append-nil c.loop-token.methods) ∙ ap (λ ms. c.loop-token.methods ++ ms) (w.in_default.ensures ∙ again))
    ]

pub returns : goal.returns
returns c = put_all _ _ _ _ c.loop-token-test.false c.loop-token.invariant
