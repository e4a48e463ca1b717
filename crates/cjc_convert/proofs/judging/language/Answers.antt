use Rattle.cjc_convert.proofs.judging.language.Goals as goal

pub returns-clause-unbroken : goal.returns-clause-unbroken
returns-clause-unbroken c =
    let checks = rw (c.items.ensures, c.in_ok-settings.ensures) at c.in_ok-broken.ensures in
    let tokens = rw c.in_ok-settings.ensures at c.in_ok-tokens.ensures in
    c.answer.ensures.ok _ (c.first-2.ensures _ _ (c.first.ensures _ _ c.foreigns_break-foreign.ensures checks) tokens)

pub returns-clause-refused : goal.returns-clause-refused
returns-clause-refused c =
    let checks = rw (c.items.ensures, c.in_ok-settings.ensures) at c.in_ok-broken.ensures in
    let tokens = rw c.in_ok-settings.ensures at c.in_ok-tokens.ensures in
    c.answer.ensures.refused _ (c.first-2.ensures _ _ (c.first.ensures _ _ c.foreigns_break-foreign.ensures checks) tokens)
