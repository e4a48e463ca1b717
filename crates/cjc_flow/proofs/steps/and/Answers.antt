use Rattle.std.proofs.Common.{subst}
use Rattle.cjc_range.specs.Span.{Span}
use Rattle.cjc_range.specs.Rows.{IsAndRow}
use Rattle.cjc_range.proofs.Bits.{and_row_only}
use Rattle.cjc_flow.proofs.steps.and.Goals as goal

pub returns : goal.returns
returns c =
    and_row_only c.args.x c.args.y c.and.result c.word.ensures.word c.word-2.ensures.word
    (subst (λ (s : Span). IsAndRow c.args.x s c.and.result) c.word-2.ensures.same
    (subst (λ (s : Span). IsAndRow s c.word-2.result c.and.result) c.word.ensures.same c.and.ensures.row))
