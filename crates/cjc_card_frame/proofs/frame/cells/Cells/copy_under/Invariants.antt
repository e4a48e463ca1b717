use Rattle.std.proofs.Common.{◌≡◌, ◌≤◌}
use Rattle.cjc_card_frame.proofs.FrameLaws.Copies.{copied_from}
use Rattle.cjc_card_frame.proofs.frame.cells.Cells.copy_under.Given as goal

abbrev pub invariant-loop-left : goal.invariant-loop-left
invariant-loop-left l = (l.left ≤ l.words)
    × (l.self ≡ record l.fn.self { stack = copied_from l.words l.below l.left l.fn.self.stack })

abbrev pub decreases-loop-left : goal.decreases-loop-left
decreases-loop-left l = l.left
