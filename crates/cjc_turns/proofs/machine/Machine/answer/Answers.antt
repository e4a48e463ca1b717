use Rattle.cjc_turns.proofs.machine.Machine.answer.Goals as goal

pub returns-then-branch-clause-next : goal.returns-then-branch-clause-next
returns-then-branch-clause-next g c =
    let split = c.in-Some.ensures in
    let acts = c.in_ok-perform.ensures.acts in ?

pub returns-clause-next : goal.returns-clause-next
returns-clause-next g c = ?
