use Rattle.std.proofs.Common.{◌≡◌, List, OnOk, [], map, subst, sym}
use Rattle.std.specs.Prelude.{IfErr}
use Rattle.cjc_group.specs.Missing.{missing}
use Rattle.cjc_group.specs.Rules.{breaks}
use Rattle.cjc_cmd_link.specs.Working.{AreOfGroup, IsTogetherFault, linked_as}
use Rattle.cjc_cmd_link.specs.declared.members.Tested.{Tested}
use Rattle.cjc_cmd_link.proofs.members.test_agreed.Goals as goal

pub test_together-requires : goal.test_together-requires
test_together-requires c = subst (λ (ts : List Tested). AreOfGroup ts) (sym c.items.ensures) c.requires

pub returns-clause-agreed : goal.returns-clause-agreed
returns-clause-agreed c =
    subst (λ (ts : List Tested). OnOk c.test_together.result (breaks (map linked_as ts) ≡ [])) c.items.ensures
    c.test_together.ensures.agreed

pub returns-clause-known : goal.returns-clause-known
returns-clause-known c =
    subst (λ (ts : List Tested). OnOk c.test_together.result (missing (map linked_as ts) ≡ [])) c.items.ensures
    c.test_together.ensures.known

pub returns-clause-refused : goal.returns-clause-refused
returns-clause-refused c =
    subst (λ (ts : List Tested). IfErr c.test_together.result (IsTogetherFault (map linked_as ts))) c.items.ensures
    c.test_together.ensures.refused
