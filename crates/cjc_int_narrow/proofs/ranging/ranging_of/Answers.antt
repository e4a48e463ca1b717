use Rattle.std.proofs.Common.{◌≡◌, ap, ◌∙◌, subst, List, Option, IfOk, ℤ}
use Rattle.cjc_int_mode.specs.Flow.Constants.{values_of}
use Rattle.cjc_flow.specs.Working.Kept.{Ranged}
use Rattle.cjc_narrow.specs.Types.Flow.{body_of}
use Rattle.cjc_narrow.specs.Types.Tables.{rows_of}
use Rattle.cjc_int_narrow.specs.Constants.{constants_of}
use Rattle.cjc_int_narrow.proofs.ranging.ranging_of.Goals as goal

pub returns : goal.returns
returns c = λ k m t of.
    let b = body_of k m t c.args.code.now.insns in
    subst (λ (vs : List (Option ℤ)). IfOk c.new.result (λ (r : Ranged). r ≡ record {
      body = b;
      values = vs;
      types = rows_of b c.args.types.now;
    })) (c.in_ok-values.ensures ∙ ap (values_of (constants_of c.args.world.now)) c.items.ensures)
    (c.new.ensures k m t of)
