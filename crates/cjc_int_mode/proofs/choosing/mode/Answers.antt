use Rattle.std.proofs.Common.{sym, subst, Bool, IfOk}
use Rattle.cjc_flow.specs.LowerTypes.Flow.{body_of}
use Rattle.cjc_flow.specs.LowerTypes.Tables.{rows_of}
use Rattle.cjc_flow.specs.Tables.{ranges_of}
use Rattle.cjc_int_mode.specs.Modes.{IsModeOf}
use Rattle.cjc_int_mode.proofs.choosing.mode.Goals as goal

pub returns-then-ints : goal.returns-then-ints
returns-then-ints c = λ k m t of constant numbers values.
    let b = body_of k m t c.args.code.now.insns in
    let types = rows_of b c.args.types.now in
    let ranges = ranges_of b constant types c.args.table.now.marks c.args.table.now.rows in
    subst (λ (ints : Bool). IfOk c.mode_by_need.result (IsModeOf ints b types ranges)) (sym c.if-ints.true)
    (c.mode_by_need.ensures k m t of constant numbers values)
