use Rattle.std.proofs.Common.{◌≡◌, ◌∙◌, ◌+◌, ap, sym, drop}
use Rattle.std.specs.Prelude.{slice_get}
use Rattle.cjc_card_semantics.specs.Bytecode.Effects.{Stick, with_some}
use Rattle.cjc_card_step.proofs.EffectsLaws.Stacks.{number_value}
use Rattle.cjc_card_step.proofs.effects.operands.value_and_number.Goals as goal

pub returns-in-None-default-clause-is : goal.returns-in-None-default-clause-is
returns-in-None-default-clause-is c = λ go.
    let s = c.args.cells.now.stack in
    let n = c.args.depth in
    number_value Stick n s go
    ∙ ap (λ o. with_some Stick o (λ i. with_some Stick (slice_get s (n + 1)) (λ v. go i v (drop (n + 2) s))))
    (sym c.number.ensures.is ∙ c.in-None-default.is-0)

pub returns-in_default-None-clause-is : goal.returns-in_default-None-clause-is
returns-in_default-None-clause-is c = λ go.
    let s = c.args.cells.now.stack in
    let n = c.args.depth in
    number_value Stick n s go
    ∙ ap (λ o. with_some Stick o (λ i. with_some Stick (slice_get s (n + 1)) (λ v. go i v (drop (n + 2) s))))
    (sym c.number.ensures.is ∙ c.in_default-None.is-0)
    ∙ ap (λ u. with_some Stick u (λ v. go c.in_default-None.field-0-0 v (drop (n + 2) s))) (sym c.word.ensures.is
    ∙ c.in_default-None.is-1)
