use Rattle.std.proofs.Common.{sym, ◌∙◌}
use Rattle.cjc_bytes.proofs.Options.{if_more}
use Rattle.cjc_judge.proofs.Assigned.{not_asked}
use Rattle.cjc_judge.proofs.judging.named_tokens.Goals as goal

pub returns-then-not-any_asks_tokens-clause-first : goal.returns-then-not-any_asks_tokens-clause-first
returns-then-not-any_asks_tokens-clause-first c = λ asked. not_asked c.args.groups.now (sym c.any_asks_tokens.ensures
    ∙ c.if-not-any_asks_tokens.true) asked

pub returns-then-not-any_asks_tokens-clause-tokens : goal.returns-then-not-any_asks_tokens-clause-tokens
returns-then-not-any_asks_tokens-clause-tokens c = λ none asked few. not_asked c.args.groups.now
    (sym c.any_asks_tokens.ensures ∙ c.if-not-any_asks_tokens.true) asked

pub returns-clause-first : goal.returns-clause-first
returns-clause-first c = if_more (λ a first asked. first) c.assign_tokens.result c.assign_tokens.ensures.first

pub returns-clause-tokens : goal.returns-clause-tokens
returns-clause-tokens c = if_more (λ a tokens none asked few. tokens few none) c.assign_tokens.result
    c.assign_tokens.ensures.tokens
