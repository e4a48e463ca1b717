use Rattle.std.proofs.Common.{◌≡◌, ◌++◌, drop, map}
use Rattle.cjc_captree.proofs.extents.offsets.offsets_of.Given as goal

abbrev pub invariant-loop-extent : goal.invariant-loop-extent
invariant-loop-extent l = l.row ++ map (λ e. e.offset) (drop l.extent-index l.extents) ≡ map (λ e. e.offset) l.extents
