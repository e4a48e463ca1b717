use Rattle.std.proofs.Common.{◌≡◌, ◌+◌, drop}
use Rattle.cjc_ncode.specs.Written.{reached, widest_sum}
use Rattle.cjc_narrow.specs.Written.Rows.{rows_by}
use Rattle.cjc_narrow.proofs.written.widest.widest_sum.Given as goal

abbrev pub invariant-loop-k : goal.invariant-loop-k
invariant-loop-k l = l.size + widest_sum (reached (drop l.k l.insns) (rows_by (drop l.k l.reaches)))
    ≡ widest_sum (reached l.insns (rows_by l.reaches))
