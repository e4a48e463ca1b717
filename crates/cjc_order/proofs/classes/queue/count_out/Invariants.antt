use Rattle.std.proofs.Common.{ℕ, List, drop}
use Rattle.cjc_order.specs.Classes.Queue.{IsQueue}
use Rattle.cjc_order.proofs.classes.queue.count_out.Given as goal

abbrev pub invariant-loop-sub : goal.invariant-loop-sub
invariant-loop-sub l =
    (listed : List (List ℕ)) (placed : List ℕ) → IsQueue l.interfaces l.classes listed placed l.subs l.fn.counts.items
    l.fn.ready
    → IsQueue l.interfaces l.classes listed placed (drop l.sub-index l.subs) l.counts.items l.ready
