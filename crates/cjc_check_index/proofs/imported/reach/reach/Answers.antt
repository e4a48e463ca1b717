use Rattle.std.proofs.Common.{List, Bool, ap, ◌∙◌}
use Rattle.cjc_check_index.specs.Imported.Working.Reach.{marked_from}
use Rattle.cjc_check_index.proofs.ImportedLaws.Marks.{walk_begins, walk_more, walk_room}
use Rattle.cjc_check_index.proofs.imported.reach.reach.Goals as goal

pub loop-at-init : goal.loop-at-init
loop-at-init c =
    walk_begins c.args.below.now c.args.begin c.into_vec-marks.result.items c.in_ok-stack.stack.items
    c.into_vec-marks.ensures
    (c.in_ok-stack.ensures ∙ ap (λ (bs : List Bool). marked_from 0 bs) c.as_slice.ensures.value)

pub loop-at-smaller : goal.loop-at-smaller
loop-at-smaller c =
    walk_room c.loop-at.marks.items c.mark_each.new.marks.items c.loop-at.stack.items c.pop.new.self.items
    c.mark_each.new.stack.items c.below_at.result.now c.in-Some.at
    c.in-Some.ensures.items c.in_ok-mark_each.ensures.marks c.in_ok-mark_each.ensures.stack

pub loop-at-preserved : goal.loop-at-preserved
loop-at-preserved c =
    walk_more c.args.below.now c.args.begin c.loop-at.marks.items c.mark_each.new.marks.items c.loop-at.stack.items
    c.pop.new.self.items c.mark_each.new.stack.items c.below_at.result.now c.in-Some.at
    c.in-Some.ensures.items c.below_at.ensures c.in_ok-mark_each.ensures.marks c.in_ok-mark_each.ensures.stack
    c.loop-at.invariant
