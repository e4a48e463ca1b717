use Rattle.std.proofs.Common.{sym, ap, ◌∙◌}
use Rattle.cjc_world.specs.Classes.{method_of_export}
use Rattle.cjc_tokens.specs.Slots.{or_next, told_by}
use Rattle.cjc_tokens.specs.Working.{token_under}
use Rattle.cjc_tokens.proofs.Listings.{answer-end, answer-next, answer_of_map}
use Rattle.cjc_tokens.proofs.told.Told.note_methods.Goals as goal

pub loop-method-preserved : goal.loop-method-preserved
loop-method-preserved c = λ s. answer-next (λ m. told_by s (method_of_export m)) c.args.methods.now
    c.loop-method.method-index c.method-item.result _ _ _ c.loop-method-test.true c.method-item.is
    (c.in_ok-note.ensures s) (c.loop-method.invariant s)

pub returns : goal.returns
returns c = λ s. answer-end (λ m. told_by s (method_of_export m)) c.args.methods.now c.loop-method.method-index _ _
    c.loop-method-test.false (c.loop-method.invariant s)
    ∙ ap (or_next (token_under c.args.self.now s)) (sym (answer_of_map (told_by s) method_of_export
    c.args.methods.now))
