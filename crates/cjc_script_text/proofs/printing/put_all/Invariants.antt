use Rattle.std.proofs.Common.{◌≡◌, ◌++◌, drop}
use Rattle.std.specs.List.{flat_map}
use Rattle.cjc_script_text.proofs.printing.put_all.Given as goal

abbrev pub invariant-loop-piece : goal.invariant-loop-piece
invariant-loop-piece l = l.out ++ flat_map (λ p. p.now) (drop l.piece-index l.pieces) ≡ l.initial.out
    ++ flat_map (λ p. p.now) l.pieces
