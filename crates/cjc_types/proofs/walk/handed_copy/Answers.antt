use Rattle.cjc_fixpoint.proofs.Runs.{no_mark}
use Rattle.cjc_types.proofs.Passing.{ascend}
use Rattle.cjc_types.proofs.walk.handed_copy.Goals as goal

pub returns-then-is_at : goal.returns-then-is_at
returns-then-is_at c lt none =
    absurd (no_mark c.args.marks.now (ascend c.args.method.now c.args.marks.now c.requires.marks) c.args.mark _ none
    (c.is_at.ensures.0 c.if-is_at.true))
