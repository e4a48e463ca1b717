use Rattle.std.proofs.Common.{subst}
use Rattle.cjc_range.specs.Span.{Span}
use Rattle.cjc_range.specs.Rows.{IsOrRow}
use Rattle.cjc_range.proofs.Bits.{or_row_only}
use Rattle.cjc_flow.proofs.steps.or.Goals as goal

pub returns : goal.returns
returns c =
    or_row_only c.args.x c.args.y c.or.result c.word.ensures.word c.word-2.ensures.word
    (subst (λ (s : Span). IsOrRow c.args.x s c.or.result) c.word-2.ensures.same
    (subst (λ (s : Span). IsOrRow s c.word-2.result c.or.result) c.word.ensures.same c.or.ensures.row))
