use Rattle.std.proofs.Common.{◌∙◌, drop}
use Rattle.cjc_card_semantics.specs.Bytecode.Effects.{Stick, onward}
use Rattle.cjc_card_step.proofs.EffectsLaws.Stacks.{reference_words}
use Rattle.cjc_card_step.proofs.effects.operands.put_reference.Goals as goal

pub returns-in_ok-put_word-in-Reference : goal.returns-in_ok-put_word-in-Reference
returns-in_ok-put_word-in-Reference c = rw c.in-Reference.is (λ m next.
    let w = c.args.cells.now in
    let r = c.in_ok-put_word-in-Reference.ensures m next in
    record {
      same = reference_words c.args.word c.requires.reference Stick (λ words. onward words c.args.room next w.locals m
          (drop c.args.taken w.stack)) ∙ r.same;
      keeps = r.keeps;
    })
