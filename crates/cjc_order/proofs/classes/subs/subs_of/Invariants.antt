use Rattle.cjc_order.proofs.ClassesLaws.Edges.{ArePut}
use Rattle.cjc_order.proofs.classes.subs.subs_of.Given as goal

abbrev pub invariant-loop-i : goal.invariant-loop-i
invariant-loop-i l = ArePut l.i l.listed l.subs.items
