use Rattle.std.proofs.lemmas.Result.{on_ok_weaker}
use Rattle.cjc_group.proofs.Agreeing.{packages_agree}
use Rattle.cjc_group.proofs.linking.test_group.Goals as goal

pub returns-clause-unbroken : goal.returns-clause-unbroken
returns-clause-unbroken c = c.answer.ensures.ok _ c.in_ok-least.ensures

pub returns-clause-refused : goal.returns-clause-refused
returns-clause-refused c = c.answer.ensures.refused _ c.in_ok-least.ensures

pub returns-clause-keeps : goal.returns-clause-keeps
returns-clause-keeps c = on_ok_weaker _ (λ e. packages_agree c.args.group.now e) (c.answer.ensures.ok _
    c.in_ok-least.ensures)
