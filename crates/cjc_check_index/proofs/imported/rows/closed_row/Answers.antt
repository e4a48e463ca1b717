use Rattle.std.proofs.Common.{List, Bool, ap, ◌∙◌}
use Rattle.cjc_check_index.specs.Imported.Working.Rows.{column}
use Rattle.cjc_check_index.proofs.ImportedLaws.Closure.{closed_is, column_is}
use Rattle.cjc_check_index.proofs.imported.rows.closed_row.Goals as goal

pub returns : goal.returns
returns c = λ classes test rows tables.
    closed_is classes (test c.args.token) c.args.below.now c.in_ok-begin.begin c.in_ok-marks.marks rows
    (c.in_ok-begin.ensures ∙ ap (λ (ts : List (List Bool)). column ts c.args.token) tables
    ∙ column_is test c.args.token classes c.requires) c.in_ok-marks.ensures
