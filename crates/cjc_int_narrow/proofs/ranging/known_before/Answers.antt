use Rattle.std.proofs.Common.{◌≡◌, ap, subst, List, Option, IfOk}
use Rattle.cjc_int_mode.specs.Flow.Tables.{IsRangeTable, ranges_of}
use Rattle.cjc_int_mode.specs.Intervals.Frames.{RangeState}
use Rattle.cjc_flow.specs.Working.Kept.{Ranged}
use Rattle.cjc_narrow.specs.Types.Flow.{body_of}
use Rattle.cjc_narrow.specs.Types.Tables.{rows_of}
use Rattle.cjc_int_narrow.specs.Constants.{constants_of}
use Rattle.cjc_int_narrow.specs.Select.{AreBefore}
use Rattle.cjc_bytes.proofs.Options.{if_more}
use Rattle.cjc_int_narrow.proofs.AreNumbers.{constants_are_numbers}
use Rattle.cjc_int_narrow.proofs.OneLeast.{one_least_ranges}
use Rattle.cjc_int_narrow.proofs.Values.{values_are}
use Rattle.cjc_int_narrow.proofs.ranging.known_before.Goals as goal

pub befores-requires-clause-body : goal.befores-requires-clause-body
befores-requires-clause-body c = λ k m t of. ap (λ (r : Ranged). r.body) (c.in_ok-ranging.ensures k m t of)

pub befores-requires-clause-rows : goal.befores-requires-clause-rows
befores-requires-clause-rows c = λ k m t of. ap (λ (r : Ranged). r.types) (c.in_ok-ranging.ensures k m t of)

pub befores-requires-clause-table : goal.befores-requires-clause-table
befores-requires-clause-table c =
    let files = c.args.world.now in
    let of = c.requires.code in
    let values = values_are files _ (body_of of.0 of.1 of.2 c.args.code.now.insns) _
    (c.in_ok-ranging.ensures of.0 of.1 of.2 of.3) in (
      constants_of files,
      constants_are_numbers files,
      values,
      c.in_ok-table.ensures (constants_of files) (constants_are_numbers files) values,
    )

pub returns-clause-some : goal.returns-clause-some
returns-clause-some c = λ k m t of.
    let files = c.args.world.now in
    let constant = constants_of files in
    let numbers = constants_are_numbers files in
    let b = body_of k m t c.args.code.now.insns in
    let types = rows_of b c.args.types.now in
    let is = c.in_ok-ranging.ensures k m t of in
    let marks = c.in_ok-table.table.marks in
    let rows = c.in_ok-table.table.rows in
    let table : IsRangeTable b constant types marks rows =
    subst (λ (r : Ranged). IsRangeTable r.body constant r.types marks rows) is
    (c.in_ok-table.ensures constant numbers (values_are files _ b _ is)) in
    if_more (λ known are. (ranges_of b constant types marks rows, table.stands.least, are)) c.befores.result
    (c.befores.ensures k m t of constant numbers (ap (λ (r : Ranged). r.values) is))

pub returns-clause-least : goal.returns-clause-least
returns-clause-least c = λ k m t of ranges least.
    let files = c.args.world.now in
    let constant = constants_of files in
    let numbers = constants_are_numbers files in
    let b = body_of k m t c.args.code.now.insns in
    let types = rows_of b c.args.types.now in
    let is = c.in_ok-ranging.ensures k m t of in
    let marks = c.in_ok-table.table.marks in
    let rows = c.in_ok-table.table.rows in
    let table : IsRangeTable b constant types marks rows =
    subst (λ (r : Ranged). IsRangeTable r.body constant r.types marks rows) is
    (c.in_ok-table.ensures constant numbers (values_are files _ b _ is)) in
    let same : ranges_of b constant types marks rows ≡ ranges =
    one_least_ranges b constant types (ranges_of b constant types marks rows) ranges table.stands.least least in
    subst (λ (rs : List (Option RangeState)). IfOk c.befores.result (AreBefore b types rs)) same
    (c.befores.ensures k m t of constant numbers (ap (λ (r : Ranged). r.values) is))
