use Rattle.cjc_fixpoint.proofs.Runs.{no_mark}
use Rattle.cjc_fixpoint.proofs.walk.passed_on_copy.Goals as goal

pub returns-then-is_at : goal.returns-then-is_at
returns-then-is_at g c lt none = absurd (no_mark c.args.marks.now c.requires.ascending c.args.mark _ none
    (c.is_at.ensures.0 c.if-is_at.true))
