use Rattle.std.proofs.Common.{arith, map}
use Rattle.cjc_check_index.specs.Imported.Working.Rows.{has_or_inherits}
use Rattle.cjc_check_index.proofs.ImportedLaws.Answers.{rows_more, rows_all}
use Rattle.cjc_check_index.proofs.imported.rows.closed_rows.Goals as goal

pub loop-token-preserved : goal.loop-token-preserved
loop-token-preserved c = λ classes test rows tables.
    rows_more (λ token. map (has_or_inherits (test token) classes) classes) c.loop-token.token c.loop-token.rows _ _
    c.in_ok-push.ensures.ok (c.in_ok-closed_row.ensures classes test rows tables) (c.loop-token.invariant classes
    test rows tables)

pub returns : goal.returns
returns c = λ classes test rows tables.
    rows_all (λ token. map (has_or_inherits (test token) classes) classes) c.loop-token.token c.loop-token.rows
    (omega arith) (c.loop-token.invariant classes test rows tables)
