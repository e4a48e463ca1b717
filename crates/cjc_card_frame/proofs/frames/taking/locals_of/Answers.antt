use Rattle.std.proofs.Common.{◌≡◌, ◌<◌, ◌+◌, ◌∙◌, ◌++◌, ◌∷◌, [], ap, sym, subst, List}
use Rattle.std.specs.Prelude.{Option, Some, slice_get}
use Rattle.std.specs.List.{All}
use Rattle.cjc_card_semantics.specs.Script.declared.value.Value.{Value}
use Rattle.cjc_card_frame.specs.Frame.Frames.{IsLocal}
use Rattle.cjc_card_frame.proofs.FramesLaws.Cells.{all_and, cell_fits, cell_is, cells_by, one_more}
use Rattle.cjc_card_frame.proofs.frames.taking.locals_of.Goals as goal

pub loop-i-preserved : goal.loop-i-preserved
loop-i-preserved c =
    let n = c.from.result + c.from-2.result in
    let args = c.args.args.now in
    let i = c.loop-i.i in
    let x = c.word_at.result in
    let lt : i < n = c.loop-i-test.true in
    let at : slice_get (cells_by n args) i ≡ Some x = cell_is n args i lt
    ∙ ap (λ (o : Option Value). Some o) (sym c.word_at.ensures) in
    let more : c.push.new.self.items ≡ c.loop-i.locals.items ++ x ∷ [] = c.in_ok-push.ensures.items in
    record {
      is = more ∙ ap (λ (xs : List (Option Value)). xs ++ x ∷ []) c.loop-i.invariant.is
          ∙ sym (one_more (cells_by n args) i x at);
      fit = subst (λ (xs : List (Option Value)). All IsLocal xs) (sym more) (all_and IsLocal c.loop-i.locals.items x
          c.loop-i.invariant.fit (subst IsLocal (sym c.word_at.ensures) (cell_fits args i c.requires)));
    }
