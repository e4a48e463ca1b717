use Rattle.std.proofs.Common.{◌+◌, Bool, cond, ap, ◌∙◌}
use Rattle.cjc_int_mode.proofs.Words.{words_are}
use Rattle.cjc_int_mode.proofs.descriptors.argument_words.Goals as goal

pub returns-clause-words : goal.returns-clause-words
returns-clause-words c = λ b is_flags is_desc.
    c.with_receiver.ensures.words
    ∙ ap (λ (s : Bool). cond s c.in_ok-words.words (1 + c.in_ok-words.words)) c.is_static.ensures
    ∙ words_are b c.args.flags c.args.desc.now c.in_ok-words.words is_flags is_desc c.in_ok-words.ensures.words
