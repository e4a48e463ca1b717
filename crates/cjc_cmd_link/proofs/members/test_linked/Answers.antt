use Rattle.std.proofs.Common.{inl, inr}
use Rattle.std.proofs.lemmas.Result.{IfErr-weaker, err_from_is_err_and, on_ok_weaker}
use Rattle.cjc_group.specs.Bytes.Breaks.{IsFirstRefusal}
use Rattle.cjc_group.specs.Missing.{missing}
use Rattle.cjc_cmd_link.specs.Working.{IsTogetherFault}
use Rattle.cjc_cmd_link.proofs.members.test_linked.Goals as goal

pub returns-in_err-test_group-clause-refused : goal.returns-in_err-test_group-clause-refused
returns-in_err-test_group-clause-refused c =
    let e = err_from_is_err_and c.from_residual.result c.from_residual.ensures.1 in
    rw (e.1, e.2) (inl c.in_err-test_group.ensures.refused)

pub returns-clause-agreed : goal.returns-clause-agreed
returns-clause-agreed c = on_ok_weaker _ (λ e. c.in_ok-test_group.ensures.unbroken) c.test_missing.ensures.unbroken

pub returns-clause-known : goal.returns-clause-known
returns-clause-known c = c.test_missing.ensures.unbroken

pub returns-clause-refused : goal.returns-clause-refused
returns-clause-refused c = IfErr-weaker c.test_missing.result (IsFirstRefusal (missing c.args.group.now))
    (IsTogetherFault c.args.group.now) (λ e h. inr (c.in_ok-test_group.ensures.unbroken, h)) c.test_missing.ensures.refused
