use Rattle.std.proofs.Common.{ap, subst}
use Rattle.cjc_narrow.specs.Types.Flow.{body_of}
use Rattle.cjc_narrow.specs.Types.Tables.{rows_of}
use Rattle.cjc_flow.specs.Tables.{IsRangeTable}
use Rattle.cjc_flow.specs.Working.Kept.{Ranged}
use Rattle.cjc_int_narrow.specs.Constants.{constants_of}
use Rattle.cjc_int_narrow.proofs.AreNumbers.{constants_are_numbers}
use Rattle.cjc_int_narrow.proofs.Values.{values_are}
use Rattle.cjc_judge.proofs.RangesLaws.OneFirst.{is_verdict}
use Rattle.cjc_judge.proofs.ranges.numbers.verdict_by.Goals as goal

pub mode-requires-clause-body : goal.mode-requires-clause-body
mode-requires-clause-body c = λ k m t of. ap (λ (r : Ranged). r.body) (c.requires.ranging k m t of)

pub mode-requires-clause-rows : goal.mode-requires-clause-rows
mode-requires-clause-rows c = λ k m t of. ap (λ (r : Ranged). r.types) (c.requires.ranging k m t of)

pub mode-requires-clause-table : goal.mode-requires-clause-table
mode-requires-clause-table c =
    let files = c.args.world.now in
    let of = c.requires.code in
    let values = values_are files c.args.ranging.now (body_of of.0 of.1 of.2 c.args.code.now.insns) _
    (c.requires.ranging of.0 of.1 of.2 of.3) in (
      constants_of files,
      constants_are_numbers files,
      values,
      c.in_ok-table.ensures (constants_of files) (constants_are_numbers files) values,
    )

pub passes-requires-clause-body : goal.passes-requires-clause-body
passes-requires-clause-body c = λ k m t of. ap (λ (r : Ranged). r.body) (c.requires.ranging k m t of)

pub passes-requires-clause-rows : goal.passes-requires-clause-rows
passes-requires-clause-rows c = λ k m t of. ap (λ (r : Ranged). r.types) (c.requires.ranging k m t of)

pub passes-requires-clause-table : goal.passes-requires-clause-table
passes-requires-clause-table c =
    let files = c.args.world.now in
    let of = c.requires.code in
    let values = values_are files c.args.ranging.now (body_of of.0 of.1 of.2 c.args.code.now.insns) _
    (c.requires.ranging of.0 of.1 of.2 of.3) in (
      constants_of files,
      constants_are_numbers files,
      values,
      c.in_ok-table.ensures (constants_of files) (constants_are_numbers files) values,
    )

pub returns : goal.returns
returns c = λ k m t of.
    let files = c.args.world.now in
    let constant = constants_of files in
    let numbers = constants_are_numbers files in
    let b = body_of k m t c.args.code.now.insns in
    let types = rows_of b c.args.types.now in
    let marks = c.in_ok-table.table.marks in
    let rows = c.in_ok-table.table.rows in
    let is = c.requires.ranging k m t of in
    let values = ap (λ (r : Ranged). r.values) is in
    let ranged : IsRangeTable b constant types marks rows =
    subst (λ (r : Ranged). IsRangeTable r.body constant r.types marks rows) is
    (c.in_ok-table.ensures constant numbers (values_are files c.args.ranging.now b _ is)) in
    is_verdict c.args.ints files b c.args.types.now (c.requires.types k m t of) marks rows ranged c.in_ok-mode.mode
    (c.in_ok-mode.ensures k m t of constant numbers values) c.in_ok-broken.broken
    (c.in_ok-broken.ensures k m t of constant numbers values)
