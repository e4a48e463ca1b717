use Rattle.std.specs.Prelude.{◌<◌}
use Rattle.std.proofs.Common.{ap, ◌∙◌, arith}
use Rattle.cjc_code.specs.Table.{row}
use Rattle.cjc_code.proofs.TableRows.{get_or-table}
use Rattle.cjc_code.proofs.table.row.Goals as goal

pub returns : goal.returns
returns c =
    let inside : c.from.result < 256 = omega (arith, c.from.ensures, c.ranges.number.fits) in
    get_or-table c.from.result _ inside ∙ ap row c.from.ensures
