use Rattle.std.proofs.Common.{subst, Option}
use Rattle.cjc_subset.specs.Bytes.declared.breaks.BrokenAt.{BrokenAt}
use Rattle.cjc_flow.specs.LowerTypes.Flow.{body_of}
use Rattle.cjc_flow.specs.LowerTypes.Tables.{rows_of}
use Rattle.cjc_flow.specs.Tables.{ranges_of}
use Rattle.cjc_flow.specs.declared.tests.passing.Tested.TheVariants as kinds
use Rattle.cjc_flow.specs.Tests.Breaches.{IsFound, is_tested}
use Rattle.cjc_int_mode.proofs.Chosen.{wide, narrow}
use Rattle.cjc_int_mode.proofs.choosing.mode_by_need.Goals as goal

pub returns-in-Some : goal.returns-in-Some
returns-in-Some c = λ k m t of constant numbers values.
    let b = body_of k m t c.args.code.now.insns in
    let types = rows_of b c.args.types.now in
    let ranges = ranges_of b constant types c.args.table.now.marks c.args.table.now.rows in
    wide b types ranges c.in-Some.field-0 (subst (λ (o : Option BrokenAt). IsFound (is_tested kinds.LowWords) b types
    ranges o) c.in-Some.is (c.in_ok-first_broken.ensures k m t of constant numbers values))

pub returns-in-None : goal.returns-in-None
returns-in-None c = λ k m t of constant numbers values.
    let b = body_of k m t c.args.code.now.insns in
    let types = rows_of b c.args.types.now in
    let ranges = ranges_of b constant types c.args.table.now.marks c.args.table.now.rows in
    narrow b types ranges c.names_int.result c.if-names_int.false (c.names_int.ensures k m t of)
    (subst (λ (o : Option BrokenAt). IsFound (is_tested kinds.LowWords) b types ranges o) c.in-None.is
    (c.in_ok-first_broken.ensures k m t of constant numbers values))
