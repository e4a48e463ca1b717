use Rattle.std.proofs.Common.{◌<◌, length, arith}
use Rattle.std.proofs.lemmas.Result.{err_from_is_err_and}
use Rattle.cjc_convert.proofs.ClassFiles.{stops_at, item_at, fine_more, fine_class, fine_other, back_class, back_other, back_end}
use Rattle.cjc_convert.proofs.classes.read_classes.Goals as goal
use Rattle.cjc_convert.proofs.classes.read_classes.Goals.{then-line+in_ok-tree+in_ok-push, else-line}

pub returns-in_err-tree : goal.returns-in_err-tree
returns-in_err-tree c =
    let p = err_from_is_err_and c.from_residual.result c.from_residual.ensures.1 in
    let line = item_at _ _ _ c.loop-at-test.true c.index-lines-at.is in
    let files : c.loop-at.at < length c.args.files.now = omega arith in
    let file = item_at _ _ _ files c.index-files-at.is in
    let stop = rw (c.items.ensures, c.items-then-line.ensures) at c.in_err-tree.ensures.refused in
    rw (p.1, p.2) (stops_at _ _ _ _ _ _ line file c.if-line.true c.loop-at.invariant.fine stop)

pub loop-at-preserved : goal.loop-at-preserved
loop-at-preserved c = elim c.if-line.branch [
  | then-line+in_ok-tree+in_ok-push w ↦ (
      let spelt = rw w.items-then-line.ensures at w.in_ok-tree.ensures.found in
      let files : c.loop-at.at < length c.args.files.now = omega arith in
      record {
        back = rw (w.trees-is, w.in_ok-push.ensures.ok) (back_class _ _ _ _ _ _ _ c.loop-at-test.true files c.index-lines-at.is w.index-files-at.is w.if-line.true spelt c.loop-at.invariant.back);
        fine = fine_more c.args.lines.now c.args.files.now c.loop-at.at c.loop-at.invariant.fine (fine_class c.args.lines.now c.args.files.now c.loop-at.at c.index-lines-at.result _ _ (item_at _ _ _ files w.index-files-at.is) spelt);
      })
  | else-line w ↦ record {
    back = rw w.trees-is (back_other _ _ _ _ _ c.loop-at-test.true c.requires.count c.index-lines-at.is w.if-line.false c.loop-at.invariant.back);
    fine = fine_more c.args.lines.now c.args.files.now c.loop-at.at c.loop-at.invariant.fine (fine_other c.args.lines.now c.args.files.now c.loop-at.at _ (item_at _ _ _ c.loop-at-test.true c.index-lines-at.is) w.if-line.false);
  }
]

pub returns : goal.returns
returns c = back_end _ _ _ _ c.loop-at-test.false c.loop-at.invariant.back
