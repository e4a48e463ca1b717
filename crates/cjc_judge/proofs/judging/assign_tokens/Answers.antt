use Rattle.std.proofs.Common.{◌∙◌, sym, length}
use Rattle.std.specs.Prelude.{nat_lt}
use Rattle.cjc_tokens.proofs.Assigns.{tested-few, tested-many}
use Rattle.cjc_judge.proofs.Assigned.{not_few}
use Rattle.cjc_judge.proofs.Unbroken.{none_refused}
use Rattle.cjc_judge.proofs.judging.assign_tokens.Goals as goal

pub returns-then-not-branch-clause-first : goal.returns-then-not-branch-clause-first
returns-then-not-branch-clause-first c = tested-many (nat_lt 0 (length c.args.settings.now.applets)) c.args.world.now
    (sym c.in_ok-few.ensures.whether ∙ c.if-not-branch.true)

pub returns-then-not-branch-clause-tokens : goal.returns-then-not-branch-clause-tokens
returns-then-not-branch-clause-tokens c = λ few none. not_few (nat_lt 0 (length c.args.settings.now.applets))
    c.args.world.now (sym c.in_ok-few.ensures.whether ∙ c.if-not-branch.true) few

pub returns-in-Ok-clause-first : goal.returns-in-Ok-clause-first
returns-in-Ok-clause-first c =
    tested-few (nat_lt 0 (length c.args.settings.now.applets)) c.args.world.now (sym c.in_ok-few.ensures.whether
    ∙ c.if-not-branch.false) ∙ c.in-Ok.ensures.unbroken

pub returns-clause-tokens : goal.returns-clause-tokens
returns-clause-tokens c = λ few none. absurd (none_refused _ _ _
    c.in-Err-Refused.field-0-is c.in-Err-Refused.ensures.refused
    (sym (tested-few (nat_lt 0 (length c.args.settings.now.applets)) c.args.world.now few) ∙ none))
