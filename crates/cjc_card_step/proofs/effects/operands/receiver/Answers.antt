use Rattle.std.proofs.Common.{◌∙◌, ◌+◌, ap, sym, drop}
use Rattle.cjc_card_semantics.specs.Bytecode.Effects.{Stick, with_some}
use Rattle.cjc_card_step.proofs.EffectsLaws.Stacks.{value_below}
use Rattle.cjc_card_step.proofs.effects.operands.receiver.Goals as goal

pub returns-in-None-word-clause-is : goal.returns-in-None-word-clause-is
returns-in-None-word-clause-is c = λ go.
    let s = c.args.cells.now.stack in
    rw c.if-this.false (value_below Stick c.args.depth s go
    ∙ ap (λ o. with_some Stick o (λ v. go v (drop (c.args.depth + 1) s))) (sym c.in-None-word.ensures.is))
