use Rattle.std.proofs.Common.{get_or}
use Rattle.std.proofs.lemmas.List.{get_or_default}
use Rattle.cjc_check_index.proofs.ImportedLaws.Marks.{marks_more, stack_more, marks_all, stack_all}
use Rattle.cjc_check_index.proofs.imported.reach.mark_each.Goals as goal

pub loop-at-preserved : goal.loop-at-preserved
loop-at-preserved c =
    let i = c.loop-at.at-index in
    let places = c.args.places.now in
    let m = c.loop-at.marks.items in
    let x = get_or places i 0 in
    let lt = c.loop-at-test.true in
    let is = get_or_default places i 0 x lt in (
      marks_more i places x m _ _ lt is c.in_ok-mark.ensures.marks c.loop-at.invariant.0,
      stack_more i places x m _ c.loop-at.stack.items _ _ lt is c.in_ok-mark.ensures.marks c.in_ok-mark.ensures.stack
          c.loop-at.invariant.1,
    )

pub returns-clause-marks : goal.returns-clause-marks
returns-clause-marks c = marks_all c.loop-at.at-index c.args.places.now c.loop-at.marks.items _ c.loop-at-test.false
    c.loop-at.invariant.0

pub returns-clause-stack : goal.returns-clause-stack
returns-clause-stack c = stack_all c.loop-at.at-index c.args.places.now c.loop-at.marks.items c.loop-at.stack.items _
    c.loop-at-test.false c.loop-at.invariant.1
