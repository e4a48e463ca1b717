use Rattle.cjc_shelf.proofs.CommandLaws.Ahead.{puts_none, pieces_more, pieces_end}
use Rattle.cjc_shelf.proofs.command.publishing.put_pieces.Goals as goal

pub loop-piece-init : goal.loop-piece-init
loop-piece-init g c = puts_none _

pub returns-in-Err : goal.returns-in-Err
returns-in-Err g c = pieces_end _ _ _ c.loop-piece-test.true _ _ _ _ c.loop-piece.invariant c.in-Err.ensures

pub loop-piece-preserved : goal.loop-piece-preserved
loop-piece-preserved g c = pieces_more _ _ _ c.loop-piece-test.true _ _ _ c.loop-piece.invariant c.in-Ok.ensures
