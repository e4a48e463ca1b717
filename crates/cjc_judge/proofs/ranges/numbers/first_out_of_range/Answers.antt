use Rattle.std.proofs.Common.{ap, ◌∙◌, List, Option, ℤ}
use Rattle.cjc_narrow.specs.Types.Flow.{body_of}
use Rattle.cjc_narrow.specs.Types.Tables.{rows_of}
use Rattle.cjc_flow.specs.Constants.{values_of}
use Rattle.cjc_flow.specs.Working.Kept.{Ranged}
use Rattle.cjc_judge.specs.OutOfRange.{constants_of}
use Rattle.cjc_judge.proofs.ranges.numbers.first_out_of_range.Goals as goal

pub first_by-requires-clause-ranging : goal.first_by-requires-clause-ranging
first_by-requires-clause-ranging c = λ k m t of.
    let b = body_of k m t c.args.code.now.insns in
    c.in_ok-ranging.ensures k m t of
    ∙ ap (λ (vs : List (Option ℤ)). let r : Ranged = record {
      body = b;
      values = vs;
      types = rows_of b c.args.types.now;
    } in r)
    (c.in_ok-values.ensures ∙ ap (values_of (constants_of c.args.world.now)) c.items.ensures)
