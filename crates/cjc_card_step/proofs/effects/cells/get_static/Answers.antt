use Rattle.std.proofs.Common.{◌∙◌, ap, sym}
use Rattle.cjc_card_semantics.specs.Bytecode.Effects.{Stick, onward, with_some, words_of}
use Rattle.cjc_card_frame.specs.Meanings.{letter_of}
use Rattle.cjc_card_step.specs.Effects.Deeds.{MemoryByToken, memory}
use Rattle.cjc_card_step.proofs.effects.cells.get_static.Goals as goal

pub returns-in_ok-put_value-in-Some : goal.returns-in_ok-put_value-in-Some
returns-in_ok-put_value-in-Some c = λ l heap next.
    let w = c.args.cells.now in
    let m : MemoryByToken = memory heap c.args.statics.now in
    let r = c.in_ok-put_value-in-Some.ensures m next in
    record {
      same = ap (λ o. with_some Stick o (λ v. words_of (letter_of c.args.letter) v Stick (λ words. onward words
          c.args.room next w.locals m w.stack))) (sym c.in-Some.ensures) ∙ r.same;
      keeps = r.keeps;
    }
