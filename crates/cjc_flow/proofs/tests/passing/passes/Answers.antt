use Rattle.std.proofs.lemmas.Result.{IfOk-weaker}
use Rattle.cjc_types.specs.Flow.{body_of}
use Rattle.cjc_types.specs.Tables.{rows_of}
use Rattle.cjc_flow.specs.Tables.{ranges_of}
use Rattle.cjc_flow.proofs.TestsLaws.First.{found_all}
use Rattle.cjc_flow.proofs.tests.passing.passes.Goals as goal

pub returns : goal.returns
returns c = λ k m t of constant numbers values.
    let b = body_of k m t c.args.code.now.insns in
    let types = rows_of b c.args.types.now in
    let ranges = ranges_of b constant types c.args.table.now.marks c.args.table.now.rows in
    IfOk-weaker c.first_broken.result _ _ (λ o h. found_all b types ranges o h)
    (c.first_broken.ensures k m t of constant numbers values)
