use Rattle.std.proofs.Common.{take, map, Ok}
use Rattle.std.specs.List.{concat}
use Rattle.cjc_shelf.specs.Sink.{Puts}
use Rattle.cjc_shelf.proofs.command.publishing.put_pieces.Given as goal

abbrev pub invariant-loop-piece : goal.invariant-loop-piece
invariant-loop-piece g l = Puts {T = Unit {0}} (concat (take l.piece-index (map (λ piece. piece.now) l.pieces)))
    (g.O.Sink.sunk l.fn.out) (g.O.Sink.sunk l.out) (Ok tt)
