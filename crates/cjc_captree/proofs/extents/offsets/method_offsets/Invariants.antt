use Rattle.std.proofs.Common.{◌≡◌, ◌++◌, drop, map}
use Rattle.cjc_captree.proofs.extents.offsets.method_offsets.Given as goal

abbrev pub invariant-loop-row : goal.invariant-loop-row
invariant-loop-row l = l.rows ++ map (map (λ e. e.offset)) (drop l.row-index l.extents) ≡ map (map (λ e. e.offset))
    l.extents
