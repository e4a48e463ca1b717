use Rattle.std.proofs.Common.{◌≡◌, ◌<◌, ◌≤◌, suc, ◌-◌, ap, sym, ◌∙◌, arith, List}
use Rattle.cjc_card_semantics.specs.Script.declared.value.Value.{Value}
use Rattle.cjc_card_frame.specs.Frame.Frames.{Words}
use Rattle.cjc_card_frame.proofs.FrameLaws.Copies.{copied_from, one_copied}
use Rattle.cjc_card_frame.proofs.frame.cells.Cells.copy_under.Goals as goal

pub loop-left-preserved : goal.loop-left-preserved
loop-left-preserved c =
    let s = c.args.self.now.stack in
    let t = c.loop-left.self.stack in
    let k = c.loop-left.left in
    let left = k - 1 in
    let some : k ≤ c.args.words = c.loop-left.invariant.0 in
    let more : left < c.args.words = omega arith in
    let next : k ≡ suc left = omega arith in
    let is : c.loop-left.self ≡ record c.args.self.now { stack = copied_from c.args.words c.args.below k s } =
    c.loop-left.invariant.1 in
    let copied = one_copied c.args.words c.args.below left k s t c.in-Some.word c.requires.there c.requires.under more
    next (ap (λ (w : Words). w.stack) is) (sym c.in-Some.ensures.is) in (
      omega arith,
      c.in_ok-put_under.ensures ∙ ap (λ (xs : List Value). record c.loop-left.self { stack = xs }) copied
          ∙ ap (λ (w : Words). record w { stack = copied_from c.args.words c.args.below left s }) is,
    )
