use Rattle.std.proofs.Common.{◌∷◌, ap, ◌∙◌}
use Rattle.std.specs.Prelude.{if◌then◌else◌}
use Rattle.cjc_card_semantics.specs.Bytecode.Machine.{Next, StuckAt}
use Rattle.cjc_card_step.specs.Effects.Deeds.{words_in}
use Rattle.cjc_card.specs.States.{with_frames}
use Rattle.cjc_card.proofs.TurnsLaws.Resumed.{resumed_as}
use Rattle.cjc_card.proofs.turns.answers.hand_over.Goals as goal

pub returns-then-branch : goal.returns-then-branch
returns-then-branch c = λ l had outer s.
    resumed_as l c.args.from (words_in c.args.words) c.args.caller c.resume.new.frame outer had s c.in_ok-resume.field-0
    c.in_ok-resume.ensures
    ∙ ap (λ b. if b then Next (with_frames (c.resume.new.frame ∷ outer) s) else StuckAt c.args.from (with_frames had s))
    c.if-branch.true

pub returns-else-branch : goal.returns-else-branch
returns-else-branch c = λ l had outer s.
    resumed_as l c.args.from (words_in c.args.words) c.args.caller c.resume.new.frame outer had s c.in_ok-resume.field-0
    c.in_ok-resume.ensures
    ∙ ap (λ b. if b then Next (with_frames (c.resume.new.frame ∷ outer) s) else StuckAt c.args.from (with_frames had s))
    c.if-branch.false
