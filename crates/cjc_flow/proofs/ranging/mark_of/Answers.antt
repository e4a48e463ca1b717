use Rattle.std.proofs.Common.{sym}
use Rattle.cjc_fixpoint.proofs.Runs.{is_mark, mark_found, mark_missing}
use Rattle.cjc_flow.proofs.ranging.mark_of.Goals as goal

pub returns-in-Ok : goal.returns-in-Ok
returns-in-Ok c =
    let found = mark_found c.args.marks.now c.args.at c.in-Ok.mark _ c.requires c.binary_search.ensures.position
    c.in-Ok.is in
    sym (is_mark c.args.marks.now c.requires c.in-Ok.mark c.args.at found)

pub returns-in-Err : goal.returns-in-Err
returns-in-Err c = sym (mark_missing c.args.marks.now c.args.at c.in-Err.field-0 _ c.requires
    c.binary_search.ensures.position c.in-Err.is)
