use Rattle.std.proofs.lemmas.Result.{IfOk-weaker}
use Rattle.cjc_flow.specs.LowerTypes.Flow.{body_of}
use Rattle.cjc_flow.specs.LowerTypes.Tables.{rows_of}
use Rattle.cjc_flow.specs.Tables.{ranges_of}
use Rattle.cjc_flow.specs.Tests.Breaches.{is_tested}
use Rattle.cjc_int_mode.specs.Modes.{binds}
use Rattle.cjc_int_mode.proofs.Chosen.{found_by}
use Rattle.cjc_int_mode.proofs.passing.passes.Goals as goal

pub returns : goal.returns
returns c = λ k m t of constant numbers values.
    let b = body_of k m t c.args.code.now.insns in
    let types = rows_of b c.args.types.now in
    let ranges = ranges_of b constant types c.args.table.now.marks c.args.table.now.rows in
    IfOk-weaker c.first_broken.result _ _ (λ o h. found_by (is_tested c.tested_by.result) (binds c.args.mode) b types
    ranges c.tested_by.ensures o h) (c.first_broken.ensures k m t of constant numbers values)
