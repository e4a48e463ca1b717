use Rattle.std.proofs.Common.{sym, ap, ◌∙◌}
use Rattle.cjc_world.specs.Working.Known.{class_of}
use Rattle.cjc_tokens.specs.Slots.{first_answer, or_next, told_in}
use Rattle.cjc_tokens.proofs.Listings.{answer-end, answer-next, answer_of_map}
use Rattle.cjc_tokens.proofs.told.told_of.Goals as goal

pub loop-class-init : goal.loop-class-init
loop-class-init c = λ s. ap (λ o. or_next o (first_answer (λ k. told_in s (class_of k)) c.args.classes.now))
    (c.new-told.ensures s)

pub loop-class-preserved : goal.loop-class-preserved
loop-class-preserved c = λ s. answer-next (λ k. told_in s (class_of k)) c.args.classes.now
    c.loop-class.class-index c.class-item.result _ _ _ c.loop-class-test.true c.class-item.is
    (c.in_ok-note_class.ensures s) (c.loop-class.invariant s)

pub returns : goal.returns
returns c = λ s. answer-end (λ k. told_in s (class_of k)) c.args.classes.now c.loop-class.class-index _ _
    c.loop-class-test.false (c.loop-class.invariant s)
    ∙ sym (answer_of_map (told_in s) class_of c.args.classes.now)
