use Rattle.std.proofs.Common.{◌≡◌, take}
use Rattle.std.specs.List.{fold}
use Rattle.cjc_order.specs.Classes.Queue.{with_sub}
use Rattle.cjc_order.proofs.classes.subs.put_subs.Given as goal

abbrev pub invariant-loop-number : goal.invariant-loop-number
invariant-loop-number l = l.subs.items ≡ fold (with_sub l.sub) l.fn.subs.items (take l.number-index l.listed)
