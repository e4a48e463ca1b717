use Rattle.cjc_group.proofs.missing.test_missing.Goals as goal

pub returns-clause-unbroken : goal.returns-clause-unbroken
returns-clause-unbroken c = c.answer.ensures.ok _ c.in_ok-least.ensures

pub returns-clause-refused : goal.returns-clause-refused
returns-clause-refused c = c.answer.ensures.refused _ c.in_ok-least.ensures
