use Rattle.std.proofs.Common.{length, sym, subst}
use Rattle.cjc_fixpoint.proofs.AllMarked.{all_least}
use Rattle.cjc_frames.specs.Flow.{frame_flow}
use Rattle.cjc_frames.specs.Tables.{IsLeastTable}
use Rattle.cjc_frames.proofs.search.least_rows.Goals as goal

pub returns : goal.returns
returns c =
    subst (IsLeastTable c.args.method.now) (sym c.rows_of.ensures)
    (all_least (frame_flow c.args.method.now) (length (let m = c.args.method.now in m.steps)) c.in_ok-table.table.marks
    c.in_ok-table.table.rows c.in_ok-table.ensures.marks c.in_ok-table.ensures.stands)
