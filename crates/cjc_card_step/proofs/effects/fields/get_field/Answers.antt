use Rattle.std.proofs.Common.{◌∙◌, sym, drop, ℕ, List}
use Rattle.cjc_card_semantics.specs.Script.declared.value.Value.{Value}
use Rattle.cjc_card_semantics.specs.Bytecode.Effects.{Slot, Stick, onward, words_of}
use Rattle.cjc_card_semantics.specs.Machine.Classes.{Class, Field}
use Rattle.cjc_card_frame.specs.Meanings.{letter_of}
use Rattle.cjc_card_frame.specs.Objects.{field_of}
use Rattle.cjc_card_step.specs.Effects.Deeds.{EffectByToken, MemoryByToken, memory}
use Rattle.cjc_card_step.specs.Effects.Looks.{field_item}
use Rattle.cjc_card_step.proofs.effects.fields.get_field.Goals as goal

pub returns-in_ok-put_value-in-Ok : goal.returns-in_ok-put_value-in-Ok
returns-in_ok-put_value-in-Ok c = λ l statics next.
    let w = c.args.cells.now in
    let heap = c.args.heap.now in
    let m : MemoryByToken = memory heap statics in
    let f = field_of c.args.field in
    let put : List Value → Value → EffectByToken = λ rest v. words_of (letter_of c.args.letter) v Stick
    (λ words. onward words c.args.room next w.locals m rest) in
    let r = c.in_ok-put_value-in-Ok.ensures m next in
    record {
      same =
          c.in-Some.ensures.is (λ v rest. field_item heap v f (λ k class slots x. put rest x))
          ∙ c.in-Ok.ensures.is (λ k class slots x. put (drop c.in-Some.taken w.stack) x)
          ∙ r.same;
      keeps = r.keeps;
    }

pub returns-in-Err : goal.returns-in-Err
returns-in-Err c = λ l statics next.
    let w = c.args.cells.now in
    let heap = c.args.heap.now in
    let m : MemoryByToken = memory heap statics in
    let f = field_of c.args.field in
    let put : List Value → Value → EffectByToken = λ rest v. words_of (letter_of c.args.letter) v Stick
    (λ words. onward words c.args.room next w.locals m rest) in
    let done = c.deed_of.ensures next w m in
    record {
      same =
          c.in-Some.ensures.is (λ v rest. field_item heap v f (λ k class slots x. put rest x))
          ∙ c.in-Err.ensures.is (λ k class slots x. put (drop c.in-Some.taken w.stack) x)
          ∙ sym done.0;
      keeps = done.1;
    }
