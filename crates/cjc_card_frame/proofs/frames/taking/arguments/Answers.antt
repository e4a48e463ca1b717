use Rattle.std.proofs.Common.{◌≡◌, ◌<◌, ◌-◌, ◌∙◌, ◌++◌, ◌∷◌, [], suc, ap, sym, subst, arith, List}
use Rattle.std.specs.List.{All}
use Rattle.cjc_card_semantics.specs.Script.declared.value.Value.{Value}
use Rattle.cjc_card_frame.specs.Frame.Frames.{IsWord}
use Rattle.cjc_card_frame.proofs.FramesLaws.Cells.{one_taken, all_and}
use Rattle.cjc_card_frame.proofs.frames.taking.arguments.Goals as goal

pub words-preserved : goal.words-preserved
words-preserved c =
    let s = c.args.cells.now.stack in
    let k = c.words.left in
    let left = k - 1 in
    let w = c.in-Some.word in
    let lt : left < c.args.count = omega (arith, c.words.invariant.left) in
    let next : k ≡ suc left = omega arith in
    record {
      left = omega (arith, c.words.invariant.left);
      is =
          c.in_ok-push.ensures.ok
          ∙ ap (λ (xs : List Value). xs ++ w ∷ []) c.words.invariant.is
          ∙ one_taken c.args.count left k s w lt next (sym c.in-Some.ensures.is);
      fit = subst (λ (xs : List Value). All IsWord xs) (sym c.in_ok-push.ensures.ok) (all_and IsWord c.words.args w
          c.words.invariant.fit c.in-Some.ensures.fits);
    }
