use Rattle.std.proofs.Common.{◌≡◌, ◌∙◌, [], subst, OnOk}
use Rattle.std.specs.Prelude.{IfErr}
use Rattle.cjc_group.specs.Missing.{missing}
use Rattle.cjc_group.specs.Rules.{breaks}
use Rattle.cjc_cmd_link.specs.Working.{IsTogetherFault}
use Rattle.cjc_cmd_link.proofs.members.test_together.Goals as goal

pub returns-clause-agreed : goal.returns-clause-agreed
returns-clause-agreed c =
    subst (λ g. OnOk c.test_linked.result (breaks g ≡ [])) (c.items-2.ensures ∙ c.in_ok-group.ensures)
    c.test_linked.ensures.agreed

pub returns-clause-known : goal.returns-clause-known
returns-clause-known c =
    subst (λ g. OnOk c.test_linked.result (missing g ≡ [])) (c.items-2.ensures ∙ c.in_ok-group.ensures)
    c.test_linked.ensures.known

pub returns-clause-refused : goal.returns-clause-refused
returns-clause-refused c =
    subst (λ g. IfErr c.test_linked.result (IsTogetherFault g)) (c.items-2.ensures ∙ c.in_ok-group.ensures)
    c.test_linked.ensures.refused
