use Rattle.std.proofs.Common.{◌≡◌, ◌++◌, drop}
use Rattle.cjc_captree.specs.Working.Tables.{extents_by}
use Rattle.cjc_captree.proofs.extents.table.extents_by.Given as goal

abbrev pub invariant-loop-k : goal.invariant-loop-k
invariant-loop-k l = l.row ++ extents_by l.handlers (drop l.k l.offsets) (drop l.k l.laid) ≡ extents_by 0 l.offsets
    l.laid
