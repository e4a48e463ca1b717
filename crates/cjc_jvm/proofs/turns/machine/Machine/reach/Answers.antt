use Rattle.cjc_jvm.proofs.turns.machine.Machine.reach.Goals as goal

pub returns-in-Abroad-clause-next : goal.returns-in-Abroad-clause-next
returns-in-Abroad-clause-next g c = rw c.in-Abroad.is c.call_abroad.ensures.next
