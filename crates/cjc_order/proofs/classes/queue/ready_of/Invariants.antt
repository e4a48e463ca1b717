use Rattle.cjc_order.proofs.ClassesLaws.Queues.{AreReady}
use Rattle.cjc_order.proofs.classes.queue.ready_of.Given as goal

abbrev pub invariant-loop-number : goal.invariant-loop-number
invariant-loop-number l = AreReady l.interfaces l.classes l.counts l.number l.ready
